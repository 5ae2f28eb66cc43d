use Rattle.std.proofs.Common.{rules, ◌≡◌, List, [], ◌∷◌, ◌++◌, map, take, sym, ap, ◌∙◌, append_assoc, append-nil}
use Rattle.std.specs.List.{flat_map}
use Rattle.std.proofs.lemmas.Grind.{put_two}
use Rattle.std.proofs.lemmas.List.{take_all}
use Rattle.just_names.specs.Name.{text_of_name}
use Rattle.just_names.specs.Texts.{Text, joined}
use Rattle.just_names.specs.declared.name.Name.{Name}
use Rattle.just_names.proofs.name.NamepathDisplay.fmt.Goals as goal

-- each text of one or more, led by the separator
led : (sep c : Text) (cs : List Text) → flat_map (λ d. sep ++ d) (c ∷ cs) ≡ sep ++ joined sep (c ∷ cs)
led sep c cs = append_assoc sep c (flat_map (λ d. sep ++ d) cs)

led_names : (sep : Text) (front : List Name) (last : Name)
    → flat_map (λ d. sep ++ d) (map text_of_name (front ++ last ∷ [])) ≡ sep ++ joined sep (map text_of_name (front ++ last ∷ []))
led_names sep [] last = led sep (text_of_name last) []
led_names sep (name ∷ names) last = led sep (text_of_name name) (map text_of_name (names ++ last ∷ []))

-- names that are each followed by the separator, and a last one
names_joined : (sep : Text) (front : List Name) (last : Name)
    → flat_map (λ name. text_of_name name ++ sep) front ++ text_of_name last ≡ joined sep (map text_of_name (front ++ last ∷ []))
names_joined sep [] last = sym (append-nil (text_of_name last))
names_joined sep (name ∷ names) last =
    append_assoc (text_of_name name ++ sep) _ (text_of_name last)
    ∙ append_assoc (text_of_name name) sep _
    ∙ ap (λ t. text_of_name name ++ (sep ++ t)) (names_joined sep names last)
    ∙ ap (λ t. text_of_name name ++ t) (sym (led_names sep names last))

pub returns-clause-writes : goal.returns-clause-writes
returns-clause-writes g c = λ plain ok.
    let all : take c.loop-name.name-index c.as_slice-name-items.result.now ≡ c.args.self.now.front = search (rules, take_all) in
    let one = c.loop-name.invariant plain in
    let two = c.write-2.ensures.writes one.plain ok in
    put_two _ _ _ _ _ _ _ one two
    (ap (λ names. flat_map (λ name. text_of_name name ++ 58 ∷ 58 ∷ []) names ++ text_of_name c.args.self.now.last) all
    ∙ names_joined (58 ∷ 58 ∷ []) c.args.self.now.front c.args.self.now.last)
