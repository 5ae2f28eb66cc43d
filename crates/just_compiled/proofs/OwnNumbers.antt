-- Variables of all modules of a compilation are told apart by their numbers.
use Rattle.std.proofs.Common.{◌≡◌, ◌∙◌, ℕ, List, [], ◌∷◌, map, Option, None, Some, inl, inr, sym, ap, subst, refl}
use Rattle.std.specs.List.{Contains}
use Rattle.std.specs.Str.{bytes_eq}
use Rattle.std.proofs.lemmas.Bool.{cases_Bool, false≢true}
use Rattle.just_graph.proofs.Index.{some_same}
use Rattle.just_graph.proofs.Members.{In, contained, from_flat, in_map, is_in}
use Rattle.just_names.specs.Texts.{Text}
use Rattle.just_parts.specs.Asts.{AstKey, same_ast_key}
use Rattle.just_parts.specs.Items.{Ast}
use Rattle.just_parts.specs.Layers.{Given}
use Rattle.just_parts.proofs.AstKeys.{key_same}
use Rattle.just_ast_definitions.specs.declared.assignment.Assignment.{Assignment}
use Rattle.just_table.specs.Entries.{find}
use Rattle.just_module_contents.specs.Kept.{claim_of_variable, kept_variables}
use Rattle.just_module_contents.specs.Named.{variable_by}
use Rattle.just_module_contents.specs.Said.{said, said_in}
use Rattle.just_module_contents.proofs.Keeping.{left_in}
use Rattle.just_module_contents.proofs.Once.{from_once}
use Rattle.just_module_headers.specs.Analyzable.{AreAnalyzable, assignment_numbers}
use Rattle.just_module_headers.specs.Reading.{Reading}
use Rattle.just_module_tree.specs.Modules.{AreModules, Forest, Heading, IsModule, Module, a_module, no_module}
use Rattle.just_module_variables.specs.Numbered.{numbered_assignment}
use Rattle.just_module_variables.specs.Variables.{known_with_numbers}
use Rattle.just_justfile.specs.Closed.{StandsIn}
use Rattle.just_justfile.specs.Running.{HaveOwnNumbers}
use Rattle.just_justfile.specs.declared.justfile.Justfile.{Justfile, out-Justfile}
use Rattle.just_compiled.specs.Justfiles.{AreCompiled, Built, IsCompiled, Made, contents_read, none, one, recipes_of_all}
use Rattle.just_compiled.proofs.ByName.{files_path}
use Rattle.just_compiled.proofs.Closing.{named_in, stands_cases}
use Rattle.just_compiled.proofs.NumbersApart.{found_among, name_of, number_of, one_of}

-- what is found among entries that are changed is found among the entries
changed_back : (change : Assignment → Assignment) (x : Text) (a : Assignment) (es : List (Text × Assignment)) → find x (map (λ (e : Text × Assignment). (e.0, change e.1)) es) ≡ Some a
    → (b : Assignment) × (find x es ≡ Some b) × (change b ≡ a)
changed_back change x a [] e = cc
changed_back change x a (v ∷ es) e = elim (cases_Bool (bytes_eq x v.0)) [
  | inl h ↦ (v.1, rw h refl, some_same (rw h at e))
  | inr h ↦ (let r = changed_back change x a es (rw h at e) in (r.0, rw h r.1, r.2))
]

module _ (given : Given) (asts : AstKey → Option Ast) (can : AreAnalyzable given.syntax.enabled asts) where
  abbrev said_by : Ast → List Assignment
  said_by ast = said variable_by given.syntax.enabled ast.items

  -- A file of a module says a variable that the module's justfile has under a name.
  record IsSaid (j : Justfile) (x : Text) (a : Assignment) : Type 0 where
    key : AstKey
    path : key.0 ≡ (out-Justfile j).module_path
    ast : Ast
    read : asts key ≡ Some ast
    variable : Assignment
    there : In variable (said_by ast)
    name : name_of variable ≡ x
    number : number_of variable ≡ number_of a

  said_there : (b : Assignment) (o : Option Ast) → In b (said_in variable_by given.syntax.enabled o) → (ast : Ast) × (o ≡ Some ast) × In b (said_by ast)
  said_there b None h = absurd h
  said_there b (Some ast) h = (ast, refl, h)

  -- two that have one number are said by one file
  one_key : (k l : AstKey) (v w : Ast) (n : ℕ) → asts k ≡ Some v → asts l ≡ Some w → In n (assignment_numbers (said_by v)) → In n (assignment_numbers (said_by w)) → k ≡ l
  one_key k l v w n is_v is_w in_v in_w = elim (cases_Bool (same_ast_key k l)) [
    | inl h ↦ (key_same k l).0 h
    | inr h ↦ absurd (can.variables_apart k l v w n is_v is_w (λ e. false≢true (sym h ∙ (key_same k l).1 e))
        (contained n (assignment_numbers (said_by v)) in_v) (contained n (assignment_numbers (said_by w)) in_w))
  ]

  -- so they are one variable of modules of one path
  told_apart : (i j : Justfile) (x y : Text) (a b : Assignment) → IsSaid i x a → IsSaid j y b → number_of a ≡ number_of b → ((out-Justfile i).module_path ≡ (out-Justfile j).module_path) × (x ≡ y)
  told_apart i j x y a b s t same =
      let numbers : number_of s.variable ≡ number_of t.variable = s.number ∙ same ∙ sym t.number in
      let in_s : In (number_of s.variable) (assignment_numbers (said_by s.ast)) = in_map number_of s.variable (said_by s.ast) s.there in
      let in_t : In (number_of s.variable) (assignment_numbers (said_by t.ast)) = subst (λ n. In n (assignment_numbers (said_by t.ast))) (sym numbers) (in_map number_of t.variable (said_by t.ast) t.there) in
      let keys : s.key ≡ t.key = one_key s.key t.key s.ast t.ast (number_of s.variable) s.read t.read in_s in_t in
      let files : t.ast ≡ s.ast = some_same (sym t.read ∙ ap asts (sym keys) ∙ s.read) in
      let there : In t.variable (said_by s.ast) = subst (λ v. In t.variable (said_by v)) files t.there in
      let one = one_of (said_by s.ast) (from_once (assignment_numbers (said_by s.ast)) (can.variables_once s.key s.ast s.read)) s.variable t.variable s.there there numbers in
      (sym s.path ∙ ap (λ (k : AstKey). k.0) keys ∙ t.path, sym s.name ∙ ap name_of one ∙ t.name)

  module _ (R : Reading) (loaded : List Text) (built : List Built) where
    module_said : {h : Heading} {m : Module} {below : Forest} {inner : List Justfile} {made : Made} {j : Justfile} → IsModule R h m → IsCompiled given asts loaded (recipes_of_all built) m below inner made j
        → (x : Text) (a : Assignment) → find x (out-Justfile j).assignments ≡ Some a → IsSaid j x a
    module_said {h = h} {m = m} {j = j} i is x a found =
        let contents = contents_read given.syntax.enabled asts m.files in
        let known = known_with_numbers given.syntax contents in
        let b = changed_back (numbered_assignment known) x a known.assignments (ap (find x) (sym is.variables.assignments_are) ∙ found) in
        let among = found_among x b.0 (kept_variables contents.variables) b.1 in
        let file = from_flat (λ k. said_in variable_by given.syntax.enabled (asts k)) b.0 m.files (left_in claim_of_variable contents.variables contents.variables b.0 among.0) in
        let by = said_there b.0 (asts file.0) file.2 in
        let path : (out-Justfile j).module_path ≡ h.key.0 = is.fields.module_path ∙ can.paths m.heading.key is.own is.own_said ∙ ap (λ (g : Heading). g.key.0) i.heading in
        record {
          key = file.0;
          path = files_path R h m i file.0 file.1 ∙ sym path;
          ast = by.0;
          read = by.1;
          variable = b.0;
          there = by.2;
          name = among.1;
          number = ap number_of b.2;
        }

    forest_said : {hs : List Heading} {f : Forest} {js : List Justfile} → AreModules R hs f → AreCompiled given asts loaded built f js → (root : Justfile) → In root js → (j : Justfile) → StandsIn root j
        → (x : Text) (a : Assignment) → find x (out-Justfile j).assignments ≡ Some a → IsSaid j x a
    forest_said no_module none root h j s x a found = absurd h
    forest_said (a_module i inside more) (one {inner = inner} {j = top} made there below is aliased after) root (inl e) j s x a found = elim (stands_cases s) [
      | inl same ↦ (let it : top ≡ j = sym e ∙ same in subst (λ (k : Justfile). IsSaid k x a) it (module_said i is x a (subst (λ (k : Justfile). find x (out-Justfile k).assignments ≡ Some a) (sym it) found)))
      | inr deeper ↦
          (let c : Contains (out-Justfile top).modules deeper.0 = subst (λ (k : Justfile). Contains (out-Justfile k).modules deeper.0) e deeper.1 in
          forest_said inside below deeper.0 (named_in inner deeper.0 (subst (In deeper.0) is.modules (is_in deeper.0 (out-Justfile top).modules c))) j deeper.2 x a found)
    ]
    forest_said (a_module i inside more) (one made there below is aliased after) root (inr h) j s x a found = forest_said more after root h j s x a found

    -- no two variables of modules that stand in what is compiled have one number
    pub own_numbers : {hs : List Heading} {f : Forest} {js : List Justfile} → AreModules R hs f → AreCompiled given asts loaded built f js → (root : Justfile) → In root js → HaveOwnNumbers root
    own_numbers are compiled root h i j x y a b in_i in_j is_a is_b same =
        told_apart i j x y a b (forest_said are compiled root h i in_i x a is_a) (forest_said are compiled root h j in_j y b is_b) (ap (λ n. n.0) same)
