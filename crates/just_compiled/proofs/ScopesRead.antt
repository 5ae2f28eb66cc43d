-- What is read in scopes that are seen alike, and what is needed from there.
use Rattle.std.proofs.Common.{◌≡◌, ◌↔◌, ◌∙◌, Bool, List, map, sym, ap, subst}
use Rattle.std.specs.List.{Contains}
use Rattle.just_ast_expressions.specs.declared.expression.Expression.{Expression}
use Rattle.just_ast_references.specs.Mentions.{Calls, Mention, Names}
use Rattle.just_graph.proofs.Members.{In, contained, from_map, in_map, is_in}
use Rattle.just_names.specs.Texts.{Text}
use Rattle.just_names.specs.declared.number.Number.{Number}
use Rattle.just_parts.specs.Known.{Known}
use Rattle.just_parts.specs.Needs.{HaveNumbersApart, IsNumberIn, Needs, onward, overridden_by, starts}
use Rattle.just_parts.specs.Reading.{Reads, at_once, mentions, through}
use Rattle.just_parts.specs.Scopes.{Scoped}
use Rattle.just_recipe_needs.specs.Needed.{AreNumbersOf, IsReadInScopes}
use Rattle.just_compiled.proofs.ScopesAlike.{Seen, seen}

-- what mentions the same where the same is hidden reads the same
reads_alike : {m : Known} {hidden : Text → Bool} {e : Expression} {name : Text} → Reads m hidden e name → (shown : Text → Bool) (d : Expression) → hidden ≡ shown → mentions e ≡ mentions d → Reads m shown d name
reads_alike {name = name} (at_once there seen is) shown d scope said = at_once (subst (λ (ms : List Mention). Contains ms (Names name)) said there) (sym (ap (λ (h : Text → Bool). h name) scope) ∙ seen) is
reads_alike (through {function = function} count called found reads) shown d scope said = through count (subst (λ (ms : List Mention). Contains ms (Calls function count)) said called) found reads

-- so what is read in scopes is read in those that are seen alike
pub read_alike : (m : Known) (these those : List Scoped) → map seen these ≡ map seen those → (name : Text) → IsReadInScopes m these name → IsReadInScopes m those name
read_alike m these those same name r =
    let at = from_map seen (seen r.from) those (subst (λ (all : List Seen). In (seen r.from) all) same (in_map seen r.from these (is_in r.from these r.there))) in
    record {
      from = at.0;
      there = contained at.0 those at.1;
      reads = reads_alike r.reads at.0.hidden at.0.expression (ap (λ (s : Seen). s.0) at.2) (ap (λ (s : Seen). s.1) at.2);
    }

-- from more, more is needed
needs_more : {m : Known} {overridden : Text → Bool} {these those : Text → Type 0} → ((name : Text) → these name → those name) → {name : Text} → Needs m overridden these name → Needs m overridden those name
needs_more more (starts {name = name} there) = starts (more name there)
needs_more more (onward need on step) = onward (needs_more more need) on step

number_more : {m : Known} {these those : Text → Type 0} → ((name : Text) → these name → those name) → (n : Number) → IsNumberIn m these n → IsNumberIn m those n
number_more more n i = record { name = i.name; assigned = i.assigned; is = i.is; number = i.number; there = more i.name i.there }

-- so numbers of what is needed from one start are those from another with the same
pub numbers_alike : (m : Known) (overridden : Number → Bool) (these those : Text → Type 0) (numbers : List Number) → ((name : Text) → these name → those name) → ((name : Text) → those name → these name)
    → AreNumbersOf m overridden these numbers → HaveNumbersApart m → (n : Number) → Contains numbers n ↔ IsNumberIn m (Needs m (overridden_by overridden m) those) n
numbers_alike m overridden these those numbers on back are apart n = (
  λ (c : Contains numbers n). number_more (λ name need. needs_more on need) n ((are.needed apart n).0 c),
  λ (i : IsNumberIn m (Needs m (overridden_by overridden m) those) n). (are.needed apart n).1 (number_more (λ name need. needs_more back need) n i),
)
