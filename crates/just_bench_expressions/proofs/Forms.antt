-- The spelling of each form, and expressions whose texts are spelled so.
use Rattle.std.proofs.Common.{◌≡◌, sym, ◌∙◌, ap, List, [], ◌∷◌, ◌++◌, map, append_assoc, None}
use Rattle.std.specs.Prelude.{codes}
use Rattle.std.specs.List.{All, Contains, flat_map}
use Rattle.std.proofs.lemmas.List.{append-nil}
use Rattle.std.proofs.lemmas.List.Concat.{flat_map-cons}
use Rattle.std.proofs.lemmas.List.Elements.{All-contains}
use Rattle.just_names.specs.Name.{text_of_name}
use Rattle.just_names.specs.Texts.{Text}
use Rattle.just_names.specs.declared.name.Name.{Name}
use Rattle.just_ast_expressions.specs.declared.expression.Expression.{Expression, out-Expression, fold_out-Expression}
use Rattle.just_ast_expressions.specs.declared.expression.Shape.{Shape, roll-Shape, fold-Shape, fold-roll-Shape, map-Shape}
use Rattle.just_ast_expressions.specs.declared.expression.Shape.TheOpen.{Shape-F}
use Rattle.just_ast_expressions.specs.declared.expression.Shape.TheVariants as shape
use Rattle.just_ast_expressions.specs.Parts.{parts, shape_parts}
use Rattle.just_bench_expressions.specs.Forms.{listed, form_spelling, as_its_form, spelling, IsPartOf, itself, inside}

abbrev pub shape_spelling : Shape → Text
shape_spelling = fold-Shape Text Text form_spelling as_its_form

-- the form of one level, whose parts have their spellings
abbrev level_spelling : Shape-F Shape Expression → Text
level_spelling level = form_spelling (map-Shape Shape Expression Text Text shape_spelling spelling level)

spelling_out : (e : Expression) → spelling e ≡ shape_spelling (out-Expression e).shape
unfolding spelling
spelling_out e = fold_out-Expression Text Text form_spelling as_its_form e

spelling_roll : (level : Shape-F Shape Expression) → shape_spelling (roll-Shape level) ≡ level_spelling level
unfolding spelling
spelling_roll level = fold-roll-Shape Text Text form_spelling as_its_form level

spelling_at : (level : Shape-F Shape Expression) {s : Shape} → roll-Shape level ≡ s → shape_spelling s ≡ level_spelling level
spelling_at level rolls = ap shape_spelling (sym rolls) ∙ spelling_roll level

pub spelling_of-StringLiteral : (cooked : Text) → shape_spelling (shape.StringLiteral cooked) ≡ codes "'" ++ cooked ++ codes "'"
spelling_of-StringLiteral cooked = spelling_at (Shape-F.StringLiteral cooked) (shape.rolls-StringLiteral cooked)

pub spelling_of-Variable : (name : Name) → shape_spelling (shape.Variable name None) ≡ text_of_name name
spelling_of-Variable name = spelling_at (Shape-F.Variable name None) (shape.rolls-Variable name None)

pub spelling_of-Call : (name : Name) (arguments : List Expression) → shape_spelling (shape.Call name arguments) ≡ text_of_name name ++ codes "(" ++ listed (map spelling arguments) ++ codes ")"
spelling_of-Call name arguments = spelling_at (Shape-F.Call name arguments) (shape.rolls-Call name arguments)

pub spelling_of-Group : (contents : Expression) → shape_spelling (shape.Group contents) ≡ codes "(" ++ spelling contents ++ codes ")"
spelling_of-Group contents = spelling_at (Shape-F.Group contents) (shape.rolls-Group contents)

pub spelling_of-List : (elements : List Expression) → shape_spelling (shape.List elements) ≡ codes "[" ++ listed (map spelling elements) ++ codes "]"
spelling_of-List elements = spelling_at (Shape-F.List elements) (shape.rolls-List elements)

pub spelling_of-Concatenation : (lhs rhs : Expression) → shape_spelling (shape.Concatenation lhs rhs) ≡ spelling lhs ++ codes " + " ++ spelling rhs
spelling_of-Concatenation lhs rhs = spelling_at (Shape-F.Concatenation lhs rhs) (shape.rolls-Concatenation lhs rhs)

-- its text, and that of each expression in it, is its spelling
abbrev pub IsSpelled : Expression → Type 0
IsSpelled whole = (e : Expression) → IsPartOf whole e → e.text ≡ spelling e

each_spelled : (whole e : Expression) → IsPartOf whole e → whole.text ≡ spelling whole → ((part : Expression) → Contains (parts whole) part → IsSpelled part) → e.text ≡ spelling e
each_spelled whole e itself own all = own
each_spelled whole e (inside {part = part} has stands) own all = all part has e stands

-- a form whose parts are spelled, with its spelling as its text
pub made_spelled : (s : Shape) (text : Text) → text ≡ shape_spelling s → All IsSpelled (shape_parts s) → IsSpelled (record { shape = s; text = text })
made_spelled s text is all =
    let whole : Expression = record { shape = s; text = text } in
    λ e stands. each_spelled whole e stands (is ∙ sym (spelling_out whole)) (λ part has. All-contains IsSpelled (shape_parts s) part all has)

pub text_is_spelling : (e : Expression) → IsSpelled e → e.text ≡ spelling e
text_is_spelling e spelled = spelled e itself

pub made_spelling : (s : Shape) (text : Text) → spelling (record { shape = s; text = text }) ≡ shape_spelling s
made_spelling s text = spelling_out (record { shape = s; text = text })

-- elements, each with the comma and the blank after it
abbrev pub with_commas : List Expression → Text
with_commas elements = flat_map (λ e. spelling e ++ codes ", ") elements

after_first : (xs : List Text) (x : Text) → flat_map (λ d. codes ", " ++ d) (x ∷ xs) ≡ codes ", " ++ listed (x ∷ xs)
after_first xs x = flat_map-cons (λ d. codes ", " ++ d) x xs ∙ append_assoc (codes ", ") x (flat_map (λ d. codes ", " ++ d) xs)

listed_more : (x : Text) (elements : List Expression) (last : Expression) → listed (x ∷ map spelling (elements ++ last ∷ [])) ≡ x ++ codes ", " ++ listed (map spelling (elements ++ last ∷ []))
listed_more x [] last = ap (λ t. x ++ t) (after_first [] (spelling last)) ∙ sym (append_assoc x (codes ", ") (listed (spelling last ∷ [])))
listed_more x (e ∷ elements) last =
    ap (λ t. x ++ t) (after_first (map spelling (elements ++ last ∷ [])) (spelling e)) ∙ sym (append_assoc x (codes ", ") (listed (map spelling (e ∷ elements ++ last ∷ []))))

pub listed_last : (elements : List Expression) (last : Expression) → with_commas elements ++ spelling last ≡ listed (map spelling (elements ++ last ∷ []))
listed_last [] last = sym (append-nil (spelling last))
listed_last (e ∷ elements) last =
    ap (λ t. t ++ spelling last) (flat_map-cons (λ d. spelling d ++ codes ", ") e elements)
    ∙ append_assoc (spelling e ++ codes ", ") (with_commas elements) (spelling last)
    ∙ ap (λ t. (spelling e ++ codes ", ") ++ t) (listed_last elements last)
    ∙ sym (listed_more (spelling e) elements last)

pub commas_more : (elements : List Expression) (last : Expression) → (with_commas elements ++ spelling last) ++ codes ", " ≡ with_commas (elements ++ last ∷ [])
commas_more [] last = sym (flat_map-cons (λ d. spelling d ++ codes ", ") last [] ∙ append-nil (spelling last ++ codes ", "))
commas_more (e ∷ elements) last =
    ap (λ t. (t ++ spelling last) ++ codes ", ") (flat_map-cons (λ d. spelling d ++ codes ", ") e elements)
    ∙ ap (λ t. t ++ codes ", ") (append_assoc (spelling e ++ codes ", ") (with_commas elements) (spelling last))
    ∙ append_assoc (spelling e ++ codes ", ") (with_commas elements ++ spelling last) (codes ", ")
    ∙ ap (λ t. (spelling e ++ codes ", ") ++ t) (commas_more elements last)
    ∙ sym (flat_map-cons (λ d. spelling d ++ codes ", ") e (elements ++ last ∷ []))
