-- A fault is told at a part of a line of the text.
use Rattle.std.proofs.Common.{suc, ◌≡◌, ℕ, ◌+◌, ◌<◌, sym, ◌∙◌, ap, refl, subst, List, [], ◌∷◌, ◌++◌, length, get_or, arith, Bool, true, false, Option, Some, None, Result, Ok, Err}
use Rattle.std.specs.Prelude.{◌==◌, IfErr, IfSome, if◌then◌else◌}
use Rattle.std.specs.List.{All, slice_get}
use Rattle.std.proofs.lemmas.List.{get_or_default}
use Rattle.std.proofs.lemmas.List.Elements.{All-nil, All-push}
use Rattle.just_names.specs.Token.{Place}
use Rattle.just_recipe.specs.declared.dependency.UnresolvedDependency.{UnresolvedDependency}
use Rattle.just_recipe.specs.declared.recipe.Recipe.{Recipe}
use Rattle.just_ast_definitions.specs.declared.parameter.Parameter.{Parameter}
use Rattle.just_ast_definitions.specs.declared.attribute.NamedAttribute.{NamedAttribute}
use Rattle.just_ast_expressions.specs.declared.expression.Expression.{Expression}
use Rattle.just_ast_expressions.specs.declared.list_use.ListUse.{ListUse}
use Rattle.just_bench_expressions.specs.declared.lines.TextLine.{TextLine}
use Rattle.just_bench_expressions.specs.Lexemes.{lexeme_place}
use Rattle.just_bench_expressions.specs.Lines.{line_place, lines_of}
use Rattle.just_bench_expressions.proofs.Cuts.{line_at_number}
use Rattle.just_bench_lines.specs.declared.attributes.Options.{Options}
use Rattle.just_bench_lines.specs.declared.body.BodyLine.{BodyLine}
use Rattle.just_bench_lines.specs.declared.heading.Heading.{Heading}
use Rattle.just_bench_lines.specs.declared.meaning.Declaration.{Declaration}
use Rattle.just_bench_lines.specs.declared.meaning.Meaning.{Meaning}
use Rattle.just_bench_lines.specs.declared.meaning.Meaning.TheVariants as meaning
use Rattle.just_bench_lines.specs.Body.{body_line, indent}
use Rattle.just_bench_lines.specs.Meaning as said
use Rattle.just_bench_stops.specs.Body.{body_stop}
use Rattle.just_bench_stops.specs.Stops.{line_stop}
use Rattle.just_bench_stops.proofs.Told.{IsPart, body_part, stop_part}
use Rattle.just_bench_syntax.specs.declared.items.Items.{Items}
use Rattle.just_bench_syntax.specs.declared.items.Reading.{Reading}
use Rattle.just_bench_syntax.specs.declared.recipe.Spoken.{Spoken}
use Rattle.just_bench_syntax.specs.Items as items
use Rattle.just_bench_syntax.specs.Recipe as recipe
use Rattle.just_bench_syntax.specs.Refusal.{IsInLine}
use Rattle.just_bench_syntax.proofs.Proper.{either}
use Rattle.just_parts.specs.Items.{Item}

-- a whole line
line_told : (path text : List ℕ) (line : TextLine) (k : ℕ) → k < length (lines_of text) → get_or (lines_of text) k line ≡ line → IsInLine path text (line_place path text line)
line_told path text line k within here =
    let start : line.offset ≡ line.offset + 0 = omega arith in
    record {
      line = line;
      stands = line_at_number text k line within here;
      within = omega arith;
      is = ap (λ n. record { line = line.number; column = 0; offset = n; length = length line.text; path = path; src = text }) start;
    }

-- a part of a line
part_told : (path text : List ℕ) (line : TextLine) (k : ℕ) (token : Place) → k < length (lines_of text) → get_or (lines_of text) k line ≡ line → IsPart path text line token → IsInLine path text token
part_told path text line k token within here part =
    let same : line.number ≡ token.line = sym (ap (λ t. t.line) part.is) in
    record {
      line = line;
      stands = subst (λ n. slice_get (lines_of text) n ≡ Some line) same (line_at_number text k line within here);
      within = part.within;
      is = part.is;
    }

-- where reading of it stops, in a body too
pub record AreInLine (path text : List ℕ) (line : TextLine) : Type 0 where
  pub whole : IsInLine path text (line_place path text line)
  pub stop : IsInLine path text (line_stop path text line)
  pub body : (start : ℕ) → IsInLine path text (body_stop path text line start)

places_told : (path text : List ℕ) (line : TextLine) (k : ℕ) → k < length (lines_of text) → get_or (lines_of text) k line ≡ line → AreInLine path text line
places_told path text line k within here = record {
  whole = line_told path text line k within here;
  stop = part_told path text line k (line_stop path text line) within here (stop_part path text line);
  body = λ start. part_told path text line k (body_stop path text line start) within here (body_part path text line start);
}

-- what would be told stands in a line
module _ (path text : List ℕ) where
  abbrev pub Told : Place → Type 0
  Told at = IsInLine path text at

  pub record AreTold (r : Reading) : Type 0 where
    pub first : IfSome r.first Told
    pub spoken : All (λ (s : Spoken). Told s.at) r.spoken

  abbrev pub Goes : Result Reading Place → Type 0
  Goes (Ok r) = AreTold r
  Goes (Err at) = Told at

  -- an attribute that does not fit
  if_told : (b : Bool) (x y : Option Place) → IfSome x Told → IfSome y Told → IfSome (if b then x else y) Told
  if_told true x y p q = p
  if_told false x y p q = q

  misfit_told : (ps : List Parameter) (before spoken : List Spoken) → All (λ (s : Spoken). Told s.at) spoken → IfSome (recipe.misfit_from ps before spoken) Told
  misfit_told ps before [] all = tt
  misfit_told ps before (s ∷ rest) all =
      if_told (recipe.fits ps before s.options.parameter) (recipe.misfit_from ps (before ++ s ∷ []) rest) (Some s.at)
      (misfit_told ps (before ++ s ∷ []) rest (λ k d within. all (suc k) d (omega (arith, within)))) (all 0 s (omega arith))

  abbrev RecipeTold : Result (Recipe UnresolvedDependency) Place → Type 0
  RecipeTold (Ok r) = Unit {0}
  RecipeTold (Err at) = Told at

  by_told : (h : Heading) (attributes : List (NamedAttribute Expression)) (spoken : List Spoken) (o : Option Place) → IfSome o Told → RecipeTold (recipe.recipe_after h attributes spoken o)
  by_told h attributes spoken None told = tt
  by_told h attributes spoken (Some at) told = told

  recipe_told : (h : Heading) (attributes : List (NamedAttribute Expression)) (spoken : List Spoken) → All (λ (s : Spoken). Told s.at) spoken → RecipeTold (recipe.recipe h attributes spoken)
  unfolding recipe.recipe
  recipe_told h attributes spoken all = by_told h attributes spoken (recipe.misfit h.parameters spoken) (misfit_told h.parameters [] spoken all)

  begun_told : (r : Reading) (made : Result (Recipe UnresolvedDependency) Place) → RecipeTold made → Goes (items.with_recipe_of r made)
  begun_told r (Ok made) told = record { first = tt; spoken = All-nil (λ (s : Spoken). Told s.at) }
  begun_told r (Err at) told = told

  item_told : (r : Reading) (it : Item) (first : Option Place) → first ≡ r.first → AreTold r → Goes (items.item_by r it first)
  item_told r it None is told = record { first = told.first; spoken = told.spoken }
  item_told r it (Some first) is told = subst (λ o. IfSome o Told) (sym is) told.first

  module_told : (r : Reading) (d : Declaration) (spoken : List Spoken) → spoken ≡ r.spoken → AreTold r → Goes (items.module_after r d spoken)
  module_told r d [] is told = record { first = tt; spoken = told.spoken }
  module_told r d (s ∷ rest) is told = subst (λ ss. All (λ (x : Spoken). Told x.at) ss) (sym is) told.spoken 0 s (omega arith)

  first_told : (first : Option Place) (at : Place) → IfSome first Told → Told at → Told (items.or_first first at)
  first_told None at told here = here
  first_told (Some first) at told here = told

  spoken_told : (spoken : List Spoken) (at : Place) (o : Option Options) → All (λ (s : Spoken). Told s.at) spoken → Told at → All (λ (s : Spoken). Told s.at) (items.and_spoken spoken at o)
  spoken_told spoken at None all here = all
  spoken_told spoken at (Some options) all here = All-push (λ (s : Spoken). Told s.at) spoken (record { options = options; at = at }) all here

  body_told : (line : TextLine) (size start : ℕ) (r : Reading) (made : Option BodyLine) → Told (body_stop path text line start) → AreTold r → Goes (items.with_body_line path text line size start r made)
  body_told line size start r None here told = here
  body_told line size start r (Some made) here told = record { first = told.first; spoken = told.spoken }

  dropped_told : (line : TextLine) (size : ℕ) (r : Reading) (start : Option ℕ) → AreInLine path text line → AreTold r → Goes (items.with_dropped path text line size r start)
  dropped_told line size r None places told = places.whole
  dropped_told line size r (Some start) places told = body_told line size start r (body_line path text line start) (places.body start) told

  meaning_told : (line : TextLine) (m : Meaning) (r : Reading) → AreInLine path text line → AreTold r → Goes (items.after_meaning path text line m r)
  meaning_told line meaning.Bad r places told = places.stop
  meaning_told line meaning.Ignored r places told = told
  meaning_told line meaning.Indented r places told =
      either Goes (indent line == length line.text) (Ok r) _ told (dropped_told line (indent line) r (items.dropped r.body line (indent line)) places told)
  meaning_told line (meaning.Marks m) r places told = record {
    first = first_told r.first (line_place path text line) told.first places.whole;
    spoken = spoken_told r.spoken (line_place path text line) m.options told.spoken places.whole;
  }
  meaning_told line (meaning.Begins h) r places told = begun_told r (recipe.recipe h r.attributes r.spoken) (recipe_told h r.attributes r.spoken told.spoken)
  meaning_told line (meaning.Declares d) r places told = module_told r d r.spoken refl told
  meaning_told line (meaning.Aliases a) r places told = item_told r (items.alias_item a) r.first refl told
  meaning_told line (meaning.States s) r places told = item_told r (items.item_of s) r.first refl told

  onward_told : {B : Type 0} (P : Result B Place → Type 0) (r : Result Reading Place) (more : Reading → Result B Place) → Goes r → ((at : Place) → Told at → P (Err at)) → ((x : Reading) → AreTold x → P (more x))
      → P (items.onward r more)
  onward_told P (Ok x) more told fault next = next x told
  onward_told P (Err at) more told fault next = fault at told

  uses_told : (lists : List ListUse) (r : Result Reading Place) → Goes r → Goes (items.with_uses lists r)
  uses_told lists (Ok r) told = record { first = told.first; spoken = told.spoken }
  uses_told lists (Err at) told = told

  lines_told : (r : Reading) (ls : List TextLine) → All (AreInLine path text) ls → AreTold r → Goes (items.with_lines path text r ls)
  lines_told r [] all told = told
  lines_told r (line ∷ rest) all told =
      onward_told Goes (items.with_said path text line (said.said_by_line path text line) r) (λ more. items.with_lines path text more rest)
      (uses_told (said.said_by_line path text line).lists (items.after_meaning path text line (said.said_by_line path text line).meaning r)
      (meaning_told line (said.said_by_line path text line).meaning r (all 0 line (omega arith)) told))
      (λ at here. here)
      (λ more t. lines_told more rest (λ k d within. all (suc k) d (omega (arith, within))) t)

  each_line : All (AreInLine path text) (lines_of text)
  each_line k d within =
      let l = get_or (lines_of text) k d in
      places_told path text l k within (get_or_default (lines_of text) k l d within)

  ends_told : (r : Reading) (first : Option Place) → IfSome first Told → IfErr (items.finished_by r first) Told
  ends_told r None told = tt
  ends_told r (Some first) told = told

  pub fault_told : IfErr (items.items_in_text path text) Told
  unfolding items.items_in_text
  fault_told =
      onward_told (λ (found : Result Items Place). IfErr found Told) (items.with_lines path text items.unread (lines_of text)) items.finished
      (lines_told items.unread (lines_of text) each_line (record { first = tt; spoken = All-nil (λ (s : Spoken). Told s.at) }))
      (λ at here. here)
      (λ r told. ends_told r r.first told.first)

pub found_told : (path text : List ℕ) (found : Result Items Place) → found ≡ items.items_in_text path text → IfErr found (IsInLine path text)
found_told path text found is = subst (λ r. IfErr r (IsInLine path text)) (sym is) (fault_told path text)

-- all lines, from the first
pub read_all : (path text : List ℕ) (all : List TextLine) (start : Reading) (r : Result Reading Place) → all ≡ lines_of text → start ≡ items.unread → r ≡ items.with_lines path text start all
    → items.onward r items.finished ≡ items.items_in_text path text
unfolding items.items_in_text
read_all path text all start r whole first read =
    ap (λ x. items.onward x items.finished) (read ∙ ap (λ x. items.with_lines path text x all) first ∙ ap (items.with_lines path text items.unread) whole)
