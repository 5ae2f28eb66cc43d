-- What a search has found after a call or a variable is looked at.
use Rattle.std.proofs.Common.{◌≡◌, ℕ, ◌+◌, ◌<◌, arith, length, OnOk, Bool, true, false, cond, ◌||◌, List, [], ◌∷◌, ◌++◌, map, Option, None, Some, if◌then◌else◌, refl, sym, ◌∙◌, ap, subst}
use Rattle.std.specs.Borrow.{Bor}
use Rattle.std.specs.HashSet.{contains}
use Rattle.std.specs.List.{list_any}
use Rattle.std.specs.Option.{option_copied}
use Rattle.std.specs.Prelude.{Result}
use Rattle.std.specs.declared.alloc.AllocError.{AllocError}
use Rattle.std.specs.Str.{bytes_eq}
use Rattle.std.proofs.lemmas.Bool.{false≢true}
use Rattle.std.proofs.lemmas.List.{append-nil, length-map, map-append}
use Rattle.std.proofs.lemmas.Result.{on_ok_weaker}
use Rattle.std.proofs.lemmas.Option.{none-some, same_Some}
use Rattle.just_names.specs.Texts.{Text}
use Rattle.just_names.specs.Name.{text_of_name}
use Rattle.just_names.specs.declared.name.Name.{Name}
use Rattle.just_names.specs.declared.number.Number.{Number}
use Rattle.just_parts.specs.Needs.{same_number}
use Rattle.just_name_resolution.specs.loops.Search.{Found, Looks, LooksAtCall, LooksAtName, IsSearchFrom, found_in, functions_left, hidden_by, scoped_of, unfound, variables_left}
use Rattle.just_name_resolution.specs.declared.needs.Search.{Search}
use Rattle.just_name_resolution.specs.declared.needs.Waiting.{Waiting}
use Rattle.just_name_resolution.proofs.Looking.{looks_call, looks_function, looks_name, looks_variable}
use Rattle.just_name_resolution.proofs.Searching.{search_begins, search_ends, search_goes_on}
use Rattle.just_name_resolution.proofs.Sets.{or_added, or_neither, or_nothing}
use Rattle.just_ast_definitions.specs.declared.assignment.Assignment.{Assignment}
use Rattle.just_ast_definitions.specs.declared.function_definition.FunctionDefinition.{FunctionDefinition}
use Rattle.just_ast_references.specs.Mentions.{Calls, Names, mention_of}
use Rattle.just_ast_references.specs.declared.references.Reference.{Reference}
use Rattle.just_ast_references.specs.declared.references.Reference.TheVariants as reference
use Rattle.just_table.specs.Entries.{find}
use Rattle.just_parts.specs.Known.{Known}
use Rattle.just_parts.specs.Reading.{mentions}
use Rattle.just_parts.specs.Scopes.{Scoped}
use Rattle.just_parts.specs.loops.Scopes.{body_scoped, value_scoped}

-- what a set or a map answers at a key
pub asked : (set : Text → Bool) (key name : Text) (answer b : Bool) → answer ≡ set key → key ≡ name → answer ≡ b → set name ≡ b
asked set key name answer b e same is = sym (e ∙ ap set same) ∙ is

-- what a look-up finds
pub found_none : {V : Type 0} (r : Option (Bor V)) (key name : Text) (es : List (Text × V)) → option_copied r ≡ find key es → key ≡ name → r ≡ None → find name es ≡ None
found_none r key name es e same none = sym (e ∙ ap (λ k. find k es) same) ∙ ap option_copied none

pub found_some : {V : Type 0} (r : Option (Bor V)) (v : Bor V) (key name : Text) (es : List (Text × V)) → option_copied r ≡ find key es → key ≡ name → r ≡ Some v → find name es ≡ Some v.now
found_some r v key name es e same some = sym (e ∙ ap (λ k. find k es) same) ∙ ap option_copied some

pub pushed : (old new : List Waiting) (w : Waiting) (s : Scoped) → new ≡ old ++ w ∷ [] → scoped_of w ≡ s → map scoped_of new ≡ map scoped_of old ++ s ∷ []
pushed old new w s e is = ap (map scoped_of) e ∙ (map-append scoped_of old (w ∷ []) ∙ ap (λ t. map scoped_of old ++ t ∷ []) is)

module _ (m : Known) (visited : Text → Bool) (name : Text) (old : Search) where
  pub call_unknown : find name m.functions ≡ None → LooksAtCall m visited name old old
  call_unknown none overridden hidden references k =
      looks_call m overridden hidden name k (found_in references visited old) (λ d is. absurd (none-some d (sym none ∙ is)))

  pub call_settled : (visited name || contains bytes_eq old.functions name) ≡ true → LooksAtCall m visited name old old
  call_settled settled overridden hidden references k = looks_call m overridden hidden name k (found_in references visited old) (λ d is. settled)

  pub call_found : (d : FunctionDefinition) → find name m.functions ≡ Some d → visited name ≡ false → contains bytes_eq old.functions name ≡ false → (new : Search) → new.numbers ≡ old.numbers
      → ((x : Text) → contains bytes_eq new.functions x ≡ cond (bytes_eq name x) true (contains bytes_eq old.functions x))
      → (w : Waiting) → new.stack.items ≡ old.stack.items ++ w ∷ [] → scoped_of w ≡ body_scoped d → LooksAtCall m visited name old new
  call_found d is unvisited unfound new numbers functions w push body overridden hidden references k =
      looks_function m overridden hidden name k d is (found_in references visited old) (found_in references visited new) (or_neither (visited name) (contains bytes_eq old.functions name) unvisited unfound)
      (λ x. ap (λ b. visited x || b) (functions x) ∙ or_added (visited x) (bytes_eq name x) (contains bytes_eq old.functions x))
      (λ n. ap (λ s. references n || contains same_number s n) numbers)
      (pushed old.stack.items new.stack.items w (body_scoped d) push body)

module _ (m : Known) (overridden references : Number → Bool) (name : Text) (old : Search) where
  pub name_unknown : find name m.assignments ≡ None → LooksAtName m overridden references name old old
  name_unknown none hidden visited shown = looks_name m overridden hidden name (found_in references visited old) (λ a shows is. absurd (none-some a (sym none ∙ is)))

  module _ (a : Assignment) (is : find name m.assignments ≡ Some a) where
    pub name_settled : (references a.number || contains same_number old.numbers a.number) ≡ true → LooksAtName m overridden references name old old
    name_settled settled hidden visited shown =
        looks_name m overridden hidden name (found_in references visited old)
        (λ b shows found. subst (λ (x : Assignment). (references x.number || contains same_number old.numbers x.number) ≡ true) (same_Some a b (sym is ∙ found)) settled)

    module _ (new : Search) (unread : references a.number ≡ false) (unfound : contains same_number old.numbers a.number ≡ false) (functions : new.functions ≡ old.functions)
        (numbers : (n : Number) → contains same_number new.numbers n ≡ cond (same_number a.number n) true (contains same_number old.numbers n)) where
      name_found : (more : List Scoped) → map scoped_of new.stack.items ≡ map scoped_of old.stack.items ++ more → more ≡ (if overridden a.number then [] else value_scoped a ∷ [])
          → LooksAtName m overridden references name old new
      name_found more waits which hidden visited shown =
          looks_variable m overridden hidden name a shown is (found_in references visited old) (found_in references visited new) more
          (or_neither (references a.number) (contains same_number old.numbers a.number) unread unfound)
          (λ n. ap (λ b. references n || b) (numbers n) ∙ or_added (references n) (same_number a.number n) (contains same_number old.numbers n))
          (λ x. ap (λ s. visited x || contains bytes_eq s x) functions) waits which

      pub name_overridden : overridden a.number ≡ true → new.stack.items ≡ old.stack.items → LooksAtName m overridden references name old new
      name_overridden over same =
          name_found [] (ap (map scoped_of) same ∙ sym (append-nil (map scoped_of old.stack.items))) (ap (λ b. if b then [] else value_scoped a ∷ []) (sym over))

      pub name_waits : overridden a.number ≡ false → (w : Waiting) → new.stack.items ≡ old.stack.items ++ w ∷ [] → scoped_of w ≡ value_scoped a → LooksAtName m overridden references name old new
      name_waits on w push value =
          name_found (value_scoped a ∷ []) (pushed old.stack.items new.stack.items w (value_scoped a) push value) (ap (λ b. if b then [] else value_scoped a ∷ []) (sym on))

-- a call and a variable, as an expression refers to them
module _ (m : Known) (overridden : Number → Bool) (hidden : Text → Bool) (references : Number → Bool) (visited : Text → Bool) (name : Name) (r : Reference) where
  pub reference_called : (k : ℕ) → r ≡ reference.Call name k → (old new : Search) (answer : Result (Unit {0}) AllocError) → OnOk answer (LooksAtCall m visited (text_of_name name) old new)
      → OnOk answer (Looks m overridden hidden (mention_of r ∷ []) (found_in references visited old) (found_in references visited new))
  reference_called k is old new answer looks =
      subst (λ (x : Reference). OnOk answer (Looks m overridden hidden (mention_of x ∷ []) (found_in references visited old) (found_in references visited new))) (sym is)
      (on_ok_weaker {P = LooksAtCall m visited (text_of_name name) old new} {Q = Looks m overridden hidden (Calls (text_of_name name) k ∷ []) (found_in references visited old) (found_in references visited new)}
      answer (λ l. l overridden hidden references k) looks)

  pub reference_hidden : r ≡ reference.Variable name → hidden (text_of_name name) ≡ true → (f : Found) → Looks m overridden hidden (mention_of r ∷ []) f f
  reference_hidden is h f =
      subst (λ (x : Reference). Looks m overridden hidden (mention_of x ∷ []) f f) (sym is) (looks_name m overridden hidden (text_of_name name) f (λ a shown found. absurd (false≢true (sym shown ∙ h))))

  pub reference_named : r ≡ reference.Variable name → hidden (text_of_name name) ≡ false → (old new : Search) (answer : Result (Unit {0}) AllocError)
      → OnOk answer (LooksAtName m overridden references (text_of_name name) old new)
      → OnOk answer (Looks m overridden hidden (mention_of r ∷ []) (found_in references visited old) (found_in references visited new))
  reference_named is shown old new answer looks =
      subst (λ (x : Reference). OnOk answer (Looks m overridden hidden (mention_of x ∷ []) (found_in references visited old) (found_in references visited new))) (sym is)
      (on_ok_weaker {P = LooksAtName m overridden references (text_of_name name) old new} {Q = Looks m overridden hidden (Names (text_of_name name) ∷ []) (found_in references visited old) (found_in references visited new)}
      answer (λ l. l hidden visited shown) looks)

-- a search, by what its code holds
module _ (m : Known) (overridden : Number → Bool) (firsts : List Waiting) (references : Number → Bool) (visited : Text → Bool) where
  pub searches_first : (s : Search) → s.numbers.keys ≡ [] → s.functions.keys ≡ [] → s.stack.items ≡ firsts
      → IsSearchFrom m overridden (map scoped_of firsts) references visited (found_in references visited s)
  searches_first s numbers functions stack =
      search_begins m overridden (map scoped_of firsts) references visited (found_in references visited s)
      (λ n. or_nothing (references n) (contains same_number s.numbers n) (ap (list_any (same_number n)) numbers))
      (λ name. or_nothing (visited name) (contains bytes_eq s.functions name) (ap (list_any (bytes_eq name)) functions))
      (ap (map scoped_of) stack)

  module _ (old popped new : Search) (next : Waiting) (numbers : popped.numbers ≡ old.numbers) (functions : popped.functions ≡ old.functions) (pop : old.stack.items ≡ popped.stack.items ++ next ∷ [])
      (search : IsSearchFrom m overridden (map scoped_of firsts) references visited (found_in references visited old))
      (looks : Looks m overridden (hidden_by next.parameters) (mentions next.expression.now) (found_in references visited popped) (found_in references visited new)) where
    same_numbers : (n : Number) → (references n || contains same_number popped.numbers n) ≡ (references n || contains same_number old.numbers n)
    same_numbers n = ap (λ s. references n || contains same_number s n) numbers

    same_functions : (name : Text) → (visited name || contains bytes_eq popped.functions name) ≡ (visited name || contains bytes_eq old.functions name)
    same_functions name = ap (λ s. visited name || contains bytes_eq s name) functions

    pub searches_next : IsSearchFrom m overridden (map scoped_of firsts) references visited (found_in references visited new)
    searches_next =
        search_goes_on m overridden (map scoped_of firsts) references visited (found_in references visited old) (found_in references visited popped) (found_in references visited new) (scoped_of next)
        search (pushed popped.stack.items old.stack.items next (scoped_of next) pop refl) same_numbers same_functions looks

    pub searches_less : unfound m (found_in references visited new) + length new.stack.items < unfound m (found_in references visited old) + length old.stack.items
    searches_less =
        let same : unfound m (found_in references visited popped) ≡ unfound m (found_in references visited old) =
        (λ i. variables_left m (λ n. same_numbers n i) + functions_left m (λ name. same_functions name i)) in
        let less = search_ends m overridden (map scoped_of firsts) references visited (found_in references visited old) (found_in references visited popped) (found_in references visited new) (scoped_of next)
        search (pushed popped.stack.items old.stack.items next (scoped_of next) pop refl) same_numbers same_functions looks same in
        omega (arith, less, length-map new.stack.items scoped_of, length-map old.stack.items scoped_of)

  -- where nothing is popped it stays as it is
  pub searches_still : (old new : Search) → new.numbers ≡ old.numbers → new.functions ≡ old.functions → old.stack.items ≡ new.stack.items ++ []
      → IsSearchFrom m overridden (map scoped_of firsts) references visited (found_in references visited old) → IsSearchFrom m overridden (map scoped_of firsts) references visited (found_in references visited new)
  searches_still old new numbers functions stack search =
      let items : old.stack.items ≡ new.stack.items = stack ∙ append-nil new.stack.items in
      let same : found_in references visited old ≡ found_in references visited new =
      (λ i. record {
        number = λ n. references n || contains same_number (sym numbers i) n;
        function = λ name. visited name || contains bytes_eq (sym functions i) name;
        waiting = map scoped_of (items i);
      }) in
      subst (IsSearchFrom m overridden (map scoped_of firsts) references visited) same search
