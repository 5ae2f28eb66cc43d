-- Whether an expression reads a variable.
use Rattle.std.proofs.Common.{◌≡◌, ◌⊎◌, ℕ, Bool, true, false, List, Some, IsSome, is_some, refl, ap, subst, inl, inr}
use Rattle.std.proofs.lemmas.Map.Views.{Contains-keys_from_lookup}
use Rattle.std.proofs.lemmas.Slice.Eq.{bytes_eq-Decides}
use Rattle.std.specs.List.{Contains}
use Rattle.std.specs.Map.{keys_of}
use Rattle.just_ast_definitions.specs.declared.function_definition.FunctionDefinition.{FunctionDefinition}
use Rattle.just_ast_expressions.specs.declared.expression.Expression.{Expression}
use Rattle.just_ast_references.specs.Mentions.{Calls, Mention, Names}
use Rattle.just_graph.proofs.Members.{In, contained, is_in}
use Rattle.just_names.specs.Texts.{Text}
use Rattle.just_parts.specs.Known.{Known, hides, none_hidden}
use Rattle.just_parts.specs.Reading.{Reads, ReadsOn, at_once, mentions, through}
use Rattle.just_table.specs.Entries.{find}
use Rattle.just_needs.proofs.Decisions.{dec-and, dec-by, dec-found, dec-is, dec-or, dec-some, dec-text}
use Rattle.just_needs.proofs.Passages.{Passes, dec-passes, here, onward}

-- what is found stands under one of the keys
pub among-keys : {V : Type 0} (x : Text) (v : V) (es : List (Text × V)) → find x es ≡ Some v → In x (keys_of es)
among-keys x v es e = is_in x (keys_of es) (Contains-keys_from_lookup (λ a b. (bytes_eq-Decides a b).0) x es (ap is_some e))

-- whether a mention is a call of a function, or a variable
is-call : (x : Text) (it : Mention) → Dec ((arguments : ℕ) × (it ≡ Calls x arguments))
is-call x (Calls y k) = dec-by (λ e. (k, ap (λ z. Calls z k) e)) (λ h. let e = h.1 in cc) (dec-text y x)
is-call x (Names y) = no (λ h. let e = h.1 in cc)

is-name : (x : Text) (it : Mention) → Dec (it ≡ Names x)
is-name x (Calls y k) = no (λ e. cc)
is-name x (Names y) = dec-by (λ e. ap Names e) (λ h. cc) (dec-text y x)

-- an expression calls a function
abbrev CallsTo : Expression → Text → Type 0
CallsTo e x = (arguments : ℕ) × Contains (mentions e) (Calls x arguments)

dec-calls : (e : Expression) (x : Text) → Dec (CallsTo e x)
dec-calls e x = dec-by {A = (it : Mention) × In it (mentions e) × ((arguments : ℕ) × (it ≡ Calls x arguments))}
    (λ h. (h.2.0, contained (Calls x h.2.0) (mentions e) (subst (λ it. In it (mentions e)) h.2.1 h.1)))
    (λ h. (Calls x h.0, is_in (Calls x h.0) (mentions e) h.1, (h.0, refl)))
    (dec-some (λ it. (arguments : ℕ) × (it ≡ Calls x arguments)) (is-call x) (mentions e))

module _ (m : Known) (name : Text) where
  -- it names the variable itself
  abbrev Mentions : (Text → Bool) → Expression → Type 0
  Mentions hidden e = Contains (mentions e) (Names name) × (hidden name ≡ false) × IsSome (find name m.assignments)

  dec-mentions : (hidden : Text → Bool) (e : Expression) → Dec (Mentions hidden e)
  dec-mentions hidden e = dec-by {A = ((it : Mention) × In it (mentions e) × (it ≡ Names name)) × ((hidden name ≡ false) × IsSome (find name m.assignments))}
      (λ h. (contained (Names name) (mentions e) (subst (λ it. In it (mentions e)) h.0.2 h.0.1), h.1.0, h.1.1))
      (λ h. ((Names name, is_in (Names name) (mentions e) h.0, refl), (h.1, h.2)))
      (dec-and (dec-some (λ it. it ≡ Names name) (is-name name) (mentions e)) (dec-and (dec-is (hidden name) false) (dec-is (is_some (find name m.assignments)) true)))

  -- a function calls another one, or its body names the variable
  abbrev FunctionCalls : Text → Text → Type 0
  FunctionCalls x y = (f : FunctionDefinition) × (find x m.functions ≡ Some f) × CallsTo f.body y

  abbrev FunctionNames : Text → Type 0
  FunctionNames x = (f : FunctionDefinition) × (find x m.functions ≡ Some f) × Mentions (hides f.parameters) f.body

  -- calls lead from a function to one whose body names the variable
  abbrev LeadsToName : Text → Type 0
  LeadsToName = Passes FunctionCalls (keys_of m.functions) FunctionNames

  dec-leads : (x : Text) → Dec (LeadsToName x)
  dec-leads = dec-passes FunctionCalls (λ x y. dec-found (λ f. CallsTo f.body y) (λ f. dec-calls f.body y) (find x m.functions)) (keys_of m.functions)
      FunctionNames (λ x. dec-found (λ f. Mentions (hides f.parameters) f.body) (λ f. dec-mentions (hides f.parameters) f.body) (find x m.functions))

  leads-keyed : (x : Text) → LeadsToName x → In x (keys_of m.functions)
  leads-keyed x (here (f, is, names)) = among-keys x f m.functions is
  leads-keyed x (onward (f, is, calls) i rest) = among-keys x f m.functions is

  -- what reads a variable names it, or calls what leads to its name
  abbrev ReadsEither : (Text → Bool) → Expression → Type 0
  ReadsEither hidden e = Mentions hidden e ⊎ ((x : Text) × CallsTo e x × LeadsToName x)

  leads-reads : (x : Text) → LeadsToName x → (f : FunctionDefinition) × (find x m.functions ≡ Some f) × Reads m (hides f.parameters) f.body name
  leads-reads x (here (f, is, names)) = (f, is, at_once names.0 names.1 names.2)
  leads-reads x (onward {b = y} (f, is, calls) i rest) = let r = leads-reads y rest in (f, is, through calls.0 calls.1 r.1 r.2)

  either-reads : (hidden : Text → Bool) (e : Expression) → ReadsEither hidden e → Reads m hidden e name
  either-reads hidden e (inl names) = at_once names.0 names.1 names.2
  either-reads hidden e (inr (x, calls, leads)) = let r = leads-reads x leads in through calls.0 calls.1 r.1 r.2

  leads-either : (x : Text) (f : FunctionDefinition) → find x m.functions ≡ Some f → ReadsEither (hides f.parameters) f.body → LeadsToName x
  leads-either x f is (inl names) = here (f, is, names)
  leads-either x f is (inr (y, calls, leads)) = onward (f, is, calls) (leads-keyed y leads) leads

reads-either : (m : Known) (name : Text) (hidden : Text → Bool) (e : Expression) → Reads m hidden e name → ReadsEither m name hidden e
reads-either m name hidden e (at_once c h s) = inl (c, h, s)
reads-either m name hidden e (through {function = x} {f = f} arguments c is r) = inr (x, (arguments, c), leads-either m name x f is (reads-either m name (hides f.parameters) f.body r))

pub dec-reads : (m : Known) (name : Text) (hidden : Text → Bool) (e : Expression) → Dec (Reads m hidden e name)
dec-reads m name hidden e = dec-by (either-reads m name hidden e) (reads-either m name hidden e) (dec-or (dec-mentions m name hidden e) (dec-by {A = (x : Text) × In x (keys_of m.functions) × (CallsTo e x × LeadsToName m name x)}
    (λ h. (h.0, h.2.0, h.2.1)) (λ h. (h.0, leads-keyed m name h.0 h.2, (h.1, h.2)))
    (dec-some (λ x. CallsTo e x × LeadsToName m name x) (λ x. dec-and (dec-calls e x) (dec-leads m name x)) (keys_of m.functions))))

-- a variable reads another one
pub dec-reads-on : (m : Known) (from to : Text) → Dec (ReadsOn m from to)
dec-reads-on m from to = dec-by
    (λ h. record { assigned = h.0; is = h.1; reads = h.2 })
    (λ r. (r.assigned, r.is, r.reads))
    (dec-found (λ a. Reads m none_hidden a.value to) (λ a. dec-reads m to none_hidden a.value) (find from m.assignments))
