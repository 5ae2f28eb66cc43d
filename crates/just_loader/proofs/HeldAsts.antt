-- Tables of what the texts of nodes say.
use Rattle.std.proofs.Common.{◌≡◌, ℕ, suc, ◌<◌, ◌≤◌, Bool, true, false, cond, List, [], ◌∷◌, ◌++◌, length, get_or, Option, None, Some, ◌⊎◌, refl, sym, ap, subst, ◌∙◌, arith, inl, inr}
use Rattle.std.specs.List.{All, slice_get}
use Rattle.std.proofs.lemmas.Bool.{cases_lt, false_from_ne_true}
use Rattle.std.proofs.lemmas.List.{append_assoc, length_push, length-append, append-nil}
use Rattle.std.proofs.lemmas.Option.{slice_get_within, slice_get_read, get_or_from_slice_get}
use Rattle.just_graph.specs.declared.unfolding.Unfolded.{Unfolded}
use Rattle.just_parts.specs.Items.{Ast}
use Rattle.just_parts.specs.Asts.{AstKey, same_ast_key}
use Rattle.just_parts.proofs.AstKeys.{key_same}
use Rattle.just_loader.specs.Loaded.{AreToldApart}
use Rattle.just_loader.specs.loops.Reading.{ShareNoNumbers}
use Rattle.just_loader.specs.loops.Placed.{scanned_path}
use Rattle.just_loader.specs.loops.Parsed.{AreKeyed, AreHeld, text_key}
use Rattle.just_loader.specs.loops.Scanned.{paths_in}
use Rattle.just_loader.specs.declared.scan_result.Scan.{Scan}
use Rattle.just_loader.specs.declared.scan_result.ScannedFile.{ScannedFile}
use Rattle.just_loader.proofs.Numberings.{got, map_get, get_more, get_last, some_same, none_some}

-- the nodes from a place on are held, and what is left are those before it
pub record HeldFrom (scan : Scan) (nodes : List Unfolded) (asts left : List Ast) (table : AstKey → Option Ast) : Type 0 where
  pub front : (more : List Ast) × (asts ≡ left ++ more)
  pub found : (k : ℕ) (u : Unfolded) (ast : Ast) → length left ≤ k → slice_get nodes k ≡ Some u → slice_get asts k ≡ Some ast → table (text_key scan u) ≡ Some ast
  pub only : (key : AstKey) (ast : Ast) → table key ≡ Some ast → (k : ℕ) × (u : Unfolded) × (slice_get nodes k ≡ Some u) × (slice_get asts k ≡ Some ast) × (text_key scan u ≡ key)

pub held_none : (scan : Scan) (nodes : List Unfolded) (asts left : List Ast) (table : AstKey → Option Ast) → left ≡ asts → length asts ≡ length nodes → ((key : AstKey) → table key ≡ None) → HeldFrom scan nodes asts left table
held_none scan nodes asts left table e count none = record {
  front = ([], sym e ∙ sym (append-nil left));
  found = λ k u ast h at to. absurd (omega (arith, h, slice_get_within asts k ast to, ap length e));
  only = λ key ast at. absurd (none_some (sym (none key) ∙ at));
}

cond_some : (b : Bool) (x y : Ast) (o : Option Ast) → cond b (Some x) o ≡ Some y → ((b ≡ true) × (x ≡ y)) ⊎ (o ≡ Some y)
cond_some true x y o e = inl (refl, some_same e)
cond_some false x y o e = inr e

-- the next node is there
next_inside : (scan : Scan) (nodes : List Unfolded) (asts left rest : List Ast) (table : AstKey → Option Ast) (last : Ast) → AreKeyed scan nodes asts → HeldFrom scan nodes asts left table → left ≡ rest ++ last ∷ [] → length rest < length nodes
next_inside scan nodes asts left rest table last keyed held e = omega (arith, keyed.count, ap length held.front.1, length-append left held.front.0, ap length e, length_push rest last)

-- one more node is held
held_more : (scan : Scan) (nodes : List Unfolded) (asts left rest : List Ast) (old new : AstKey → Option Ast) (here : AstKey) (u : Unfolded) (last : Ast) → AreKeyed scan nodes asts → HeldFrom scan nodes asts left old → left ≡ rest ++ last ∷ []
    → slice_get nodes (length rest) ≡ Some u → here.0 ≡ last.module_path → here.1 ≡ scanned_path scan u.node → ((key : AstKey) → new key ≡ cond (same_ast_key here key) (Some last) (old key)) → HeldFrom scan nodes asts rest new
held_more scan nodes asts left rest old new here u last keyed held e at path file put =
    let front : asts ≡ (rest ++ last ∷ []) ++ held.front.0 = held.front.1 ∙ ap (λ xs. xs ++ held.front.0) e in
    let to : slice_get asts (length rest) ≡ Some last = ap (λ xs. slice_get xs (length rest)) front ∙ get_more (rest ++ last ∷ []) held.front.0 (length rest) last (get_last rest last) in
    let size : length left ≡ suc (length rest) = omega (arith, ap length e, length_push rest last) in
    let named : here.0 ≡ (text_key scan u).0 = path ∙ keyed.paths (length rest) u last at to in
    let is : here ≡ text_key scan u = λ j. (named j, file j) in
    record {
      front = (last ∷ held.front.0, front ∙ append_assoc rest (last ∷ []) held.front.0);
      found = λ k v ast h f g. elim (cases_lt (length rest) k) [
        | inl l ↦
            (let other : same_ast_key here (text_key scan v) ≡ false = false_from_ne_true (same_ast_key here (text_key scan v)) (λ t.
            let same : length rest ≡ k = keyed.apart (length rest) k u v at f (sym is ∙ (key_same here (text_key scan v)).0 t) in absurd (omega (arith, same, l))) in
            put (text_key scan v) ∙ ap (λ b. cond b (Some last) (old (text_key scan v))) other ∙ held.found k v ast (omega (arith, size, l)) f g)
        | inr l ↦
            (let place : length rest ≡ k = omega (arith, l, h) in
            let node : u ≡ v = some_same (sym at ∙ ap (slice_get nodes) place ∙ f) in
            let what : last ≡ ast = some_same (sym to ∙ ap (slice_get asts) place ∙ g) in
            let same : same_ast_key here (text_key scan v) ≡ true = (key_same here (text_key scan v)).1 (is ∙ ap (text_key scan) node) in
            put (text_key scan v) ∙ ap (λ b. cond b (Some last) (old (text_key scan v))) same ∙ ap Some what)
      ];
      only = λ key ast g. elim (cond_some (same_ast_key here key) last ast (old key) (sym (put key) ∙ g)) [
        | inl s ↦ (length rest, u, at, to ∙ ap Some s.1, sym is ∙ (key_same here key).0 s.0)
        | inr o ↦ held.only key ast o
      ];
    }

-- the same by what is read
module _ (scan : Scan) (nodes : List Unfolded) (asts left rest : List Ast) (old : AstKey → Option Ast) (u : Unfolded) (last : Ast) (place : ℕ)
    (keyed : AreKeyed scan nodes asts) (held : HeldFrom scan nodes asts left old) (e : left ≡ rest ++ last ∷ []) (is : place ≡ length rest) (read : u ≡ get_or nodes place u) where
  next_there : slice_get nodes place ≡ Some u
  next_there = slice_get_read nodes (length nodes) place u refl (omega (arith, is, next_inside scan nodes asts left rest old last keyed held e)) read

  pub node_inside : u.node < length scan.files.items
  node_inside = keyed.within place u next_there

  pub held_next : (new : AstKey → Option Ast) (here : AstKey) (file : ScannedFile) → file ≡ get_or scan.files.items u.node file → here.0 ≡ last.module_path → here.1 ≡ file.path
      → ((key : AstKey) → new key ≡ cond (same_ast_key here key) (Some last) (old key)) → HeldFrom scan nodes asts rest new
  held_next new here file at path named put =
      let files = scan.files.items in
      let there : slice_get files u.node ≡ Some file = slice_get_read files (length files) u.node file refl node_inside at in
      let same : scanned_path scan u.node ≡ file.path = get_or_from_slice_get (paths_in files) u.node file.path [] (map_get (λ (f : ScannedFile). f.path) files u.node file there) in
      held_more scan nodes asts left rest old new here u last keyed held e (ap (slice_get nodes) (sym is) ∙ next_there) path (named ∙ sym same) put

module _ (scan : Scan) (nodes : List Unfolded) (asts : List Ast) (table : AstKey → Option Ast) (held : AreHeld scan nodes asts table) where
  pub are_told_apart : ShareNoNumbers asts → AreToldApart table
  are_told_apart h = record {
    rising = λ k ast e. let r = held.only k ast e in let rises = h.1.rising r.0 ast (map_get Some asts r.0 ast r.3) in (rises.0, h.0, rises.1);
    apart = λ k l a b n e g other x y.
        let r = held.only k a e in
        let s = held.only l b g in
        let place : r.0 ≡ s.0 = h.1.apart r.0 s.0 a b n (map_get Some asts r.0 a r.3) (map_get Some asts s.0 b s.3) x y in
        let node : r.1 ≡ s.1 = some_same (sym r.2 ∙ ap (slice_get nodes) place ∙ s.2) in
        let same : same_ast_key k l ≡ true = (key_same k l).1 (sym r.4 ∙ ap (text_key scan) node ∙ s.4) in
        let wrong : true ≡ false = sym same ∙ other in cc;
  }

  pub held_each : (P : Ast → Type 0) → All P asts → (k : AstKey) (ast : Ast) → table k ≡ Some ast → P ast
  held_each P all k ast e =
      let r = held.only k ast e in
      let c = got asts r.0 ast r.3 in
      subst P c.2 (all c.0 ast c.1)
