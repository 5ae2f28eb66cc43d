-- What the texts of nodes say, one after another.
use Rattle.std.proofs.Common.{◌≡◌, ℕ, ◌+◌, ◌<◌, ◌≤◌, List, [], ◌∷◌, ◌++◌, take, length, get_or, Some, Result, Ok, Err, IfErr, inl, inr, refl, sym, ap, subst, ◌∙◌, arith}
use Rattle.std.specs.List.{All, slice_get}
use Rattle.std.proofs.lemmas.List.Elements.{All-push, All-same}
use Rattle.std.proofs.lemmas.List.Sums.{sum_by_more}
use Rattle.std.proofs.lemmas.Option.{slice_get_read}
use Rattle.just_graph.specs.Unfolding.{Node}
use Rattle.just_graph.specs.declared.unfolding.Unfolded.{Unfolded}
use Rattle.just_parts.specs.Items.{Ast}
use Rattle.just_parts.specs.Syntax.{SyntaxAnswers}
use Rattle.just_errors.specs.declared.error.Error.{Error}
use Rattle.just_errors.specs.declared.error.Error.TheVariants as error
use Rattle.just_source.specs.declared.source.Source.{Source}
use Rattle.just_loader.specs.Keys.{spends_at}
use Rattle.just_loader.specs.Loaded.{IsAstOf}
use Rattle.just_loader.specs.loops.Placed.{scanned_path, file_node}
use Rattle.just_loader.specs.loops.Loading.{AreNodes, AreParsedSoFar, AreNodeSources, IsSaid, IsScanBy, Stops, StopsAt, spent_by}
use Rattle.just_loader.specs.Reached.{World}
use Rattle.just_loader.specs.loops.Scanned.{IsScan}
use Rattle.just_loader.specs.declared.scan_result.Scan.{Scan}
use Rattle.just_loader.proofs.Numberings.{get_cases, none_some}

-- an element that is read
pub read : {A : Type 0} (xs : List A) (k : ℕ) (x : A) → k < length xs → x ≡ get_or xs k x → slice_get xs k ≡ Some x
read xs k x h is = slice_get_read xs (length xs) k x refl h is

-- what a node's text says, as its file came in
pub ast_at : (w : World) (scan : Scan) → IsScan w scan → (us : List Unfolded) (ns : List Node) (sources : List Source) → AreNodes scan us ns → AreNodeSources scan ns sources → (k : ℕ) (u : Unfolded) (source : Source) (n : Node) (ast : Ast) → k < length us → u ≡ get_or us k u
    → source ≡ get_or sources k source → slice_get ns k ≡ Some n → IsSaid w (scanned_path scan (get_or us k u).node) source ast → IsAstOf w (file_node scan n) ast
ast_at w scan is us ns sources nodes are k u source n ast h is_u is_source here said =
    let told = nodes.1.tells k u n (read us k u h is_u) here in
    let same : (get_or us k u).node ≡ n.node = ap (λ (x : Unfolded). x.node) (sym is_u) ∙ told.node in
    let s : IsSaid w (scanned_path scan n.node) source ast = subst (λ x. IsSaid w (scanned_path scan x) source ast) same said in
    record {
      source = source;
      came = are.came k n source here (read sources k source (omega (arith, h, are.count, nodes.1.count)) is_source) w is;
      parsed = s.parsed;
      from = s.from;
      said = s.said;
      items = s.items;
      rest = s.rest;
    }

pub parsed_none : (w : World) (scan : Scan) (ns : List Node) (asts : List Ast) → asts ≡ [] → AreParsedSoFar w scan ns asts
parsed_none w scan ns asts e k n ast at here = absurd (none_some (ap (λ xs. slice_get xs k) (sym e) ∙ here))

pub parsed_more : (w : World) (scan : Scan) (ns : List Node) (old new : List Ast) (ast : Ast) → AreParsedSoFar w scan ns old → ((n : Node) → slice_get ns (length old) ≡ Some n → IsAstOf w (file_node scan n) ast) → new ≡ old ++ ast ∷ [] → AreParsedSoFar w scan ns new
parsed_more w scan ns old new ast so one is k n a at here = elim (get_cases old ast a k (ap (λ xs. slice_get xs k) (sym is) ∙ here)) [
  | inl before ↦ so k n a at before
  | inr last ↦ subst (IsAstOf w (file_node scan n)) last.1 (one n (ap (slice_get ns) (sym last.0) ∙ at))
]

-- what holds of one more element
pub all_more : {A : Type 0} (P : A → Type 0) (old new : List A) (x : A) → All P old → P x → new ≡ old ++ x ∷ [] → All P new
all_more P old new x all one is = All-same P new (old ++ x ∷ []) is (All-push P old x all one)

-- the numbers of one more text
pub spent_more : (w : World) (scan : Scan) (us : List Unfolded) (k : ℕ) (d : Unfolded) → k < length us → spent_by w scan (take (k + 1) us) ≡ spent_by w scan (take k us) + spends_at w (scanned_path scan (get_or us k d).node)
spent_more w scan us k d h = sum_by_more (λ (u : Unfolded). spends_at w (scanned_path scan u.node)) us k d h

pub stops_at_last : (w : World) (scan : Scan) (us : List Unfolded) (k : ℕ) (d : Unfolded) (first given : ℕ) (e : Error) → k < length us → given ≤ first + spent_by w scan (take k us) → StopsAt given (spends_at w (scanned_path scan (get_or us k d).node)) e → Stops w scan us first e
stops_at_last w scan us k d first given (error.Load e) h is s = s
stops_at_last w scan us k d first given (error.Compile e) h is s = s
stops_at_last w scan us k d first given (error.Invocation e) h is s = s
stops_at_last w scan us k d first given (error.Run e) h is s = s
stops_at_last w scan us k d first given error.Exhausted h is s = (k + 1, omega arith, omega (arith, s, is, spent_more w scan us k d h))
stops_at_last w scan us k d first given error.Memory h is s = tt

pub err_by : {A : Type 0} (P Q : Error → Type 0) (r : Result A Error) → IfErr r P → ((e : Error) → P e → Q e) → IfErr r Q
err_by P Q (Ok a) h f = tt
err_by P Q (Err e) h f = f e h

-- where numbers do not run out, it does not matter how many were given before
stops_anew : (w : World) (scan : Scan) (us : List Unfolded) (given : ℕ) (e : Error) → (e ≡ error.Exhausted → ⊥) → Stops w scan us given e → Stops w scan us 0 e
stops_anew w scan us given error.Exhausted other h = absurd (other refl)
stops_anew w scan us given (error.Load e) other h = h
stops_anew w scan us given (error.Compile e) other h = h
stops_anew w scan us given (error.Invocation e) other h = h
stops_anew w scan us given (error.Run e) other h = h
stops_anew w scan us given error.Memory other h = h

pub stops_unless : {A : Type 0} (r : Result A Error) (scan : Scan) (answers : SyntaxAnswers) (us : List Unfolded) (given : ℕ) (e : Error) → r ≡ Err e → (e ≡ error.Exhausted → ⊥)
    → IfErr r (λ (x : Error). (w : World) → IsScanBy w scan answers → Stops w scan us given x) → (w : World) → IsScanBy w scan answers → Stops w scan us 0 e
stops_unless {A} r scan answers us given e is other h w by =
    let stopped = subst (λ (x : Result A Error). IfErr x (λ (x : Error). (w : World) → IsScanBy w scan answers → Stops w scan us given x)) is h in
    stops_anew w scan us given e other (stopped w by)
