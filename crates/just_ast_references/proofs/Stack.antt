-- A stack of expressions, and the walk over it.
use Rattle.std.proofs.Common.{◌≡◌, refl, sym, ◌∙◌, ap, suc, ◌+◌, ◌<◌, arith, List, [], ◌∷◌, ◌++◌, reverse, Bor, All}
use Rattle.std.specs.List.{flat_map, sum_by}
use Rattle.std.proofs.lemmas.Grind.{flat_map-append}
use Rattle.std.proofs.lemmas.List.{append_assoc, map-append, reverse-append}
use Rattle.std.proofs.lemmas.List.Concat.{flat_map-cons}
use Rattle.std.proofs.lemmas.List.Elements.{All-rest}
use Rattle.std.proofs.lemmas.List.Sums.{sum_by-cons, sum_by-append}
use Rattle.just_ast_expressions.specs.declared.expression.Expression.{Expression}
use Rattle.just_ast_expressions.specs.Parts.{parts}
use Rattle.just_ast_references.specs.Parts.{borrowed, waiting}
use Rattle.just_ast_references.specs.References.{IsReference, mention, references}
use Rattle.just_ast_references.specs.declared.references.Reference.{Reference}
use Rattle.just_ast_expressions.proofs.Sizes.{size, size_is}
use Rattle.just_ast_references.proofs.Fold.{references_are}

-- what is pushed is popped next
pub waiting_push : (stack : List (Bor Expression)) (next : Bor Expression) → waiting (stack ++ next ∷ []) ≡ next.now ∷ waiting stack
waiting_push stack next = ap reverse (map-append (λ r. r.now) stack (next ∷ [])) ∙ reverse-append (borrowed stack) (next.now ∷ [])

-- what is reversed waits in its first order
pub waiting_reverse : (found : List (Bor Expression)) → waiting (reverse found) ≡ borrowed found
waiting_reverse [] = refl
waiting_reverse (first ∷ rest) =
    ap waiting (reverse-append (first ∷ []) rest) ∙ waiting_push (reverse rest) first ∙ ap (λ others. first.now ∷ others) (waiting_reverse rest)

-- the references of one expression and of those that wait are its mention, and the references of its parts and of those
references_on : (next : Expression) (others : List Expression) →
    flat_map references (next ∷ others) ≡ mention next ++ flat_map references (parts next ++ others)
references_on next others =
    flat_map-cons references next others
    ∙ ap (λ own. own ++ flat_map references others) (references_are next)
    ∙ append_assoc (mention next) (flat_map references (parts next)) (flat_map references others)
    ∙ ap (λ rest. mention next ++ rest) (sym (flat_map-append references (parts next) others))

-- A step of the walk: an expression is popped, what it mentions is found, and its parts are pushed.
pub walk_on : (found made all : List Reference) (stack popped pushed : List (Bor Expression)) (next : Bor Expression) →
    found ++ flat_map references (waiting stack) ≡ all → stack ≡ popped ++ next ∷ [] → made ≡ found ++ mention next.now →
    waiting pushed ≡ parts next.now ++ waiting popped → made ++ flat_map references (waiting pushed) ≡ all
walk_on found made all stack popped pushed next whole pop mentioned push =
    ap (λ m. m ++ flat_map references (waiting pushed)) mentioned
    ∙ append_assoc found (mention next.now) (flat_map references (waiting pushed))
    ∙ ap (λ w. found ++ (mention next.now ++ flat_map references w)) push
    ∙ ap (λ rest. found ++ rest) (sym (references_on next.now (waiting popped)))
    ∙ ap (λ w. found ++ flat_map references w) (sym (waiting_push popped next))
    ∙ ap (λ s. found ++ flat_map references (waiting s)) (sym pop)
    ∙ whole

-- It leaves less to walk over.
pub walk_ends : (stack popped pushed : List (Bor Expression)) (next : Bor Expression) →
    stack ≡ popped ++ next ∷ [] → waiting pushed ≡ parts next.now ++ waiting popped →
    sum_by size (waiting pushed) < sum_by size (waiting stack)
walk_ends stack popped pushed next pop push =
    let before : sum_by size (waiting stack) ≡ size next.now + sum_by size (waiting popped) =
    ap (λ s. sum_by size (waiting s)) pop ∙ ap (sum_by size) (waiting_push popped next) ∙ sum_by-cons size next.now (waiting popped) in
    let after : sum_by size (waiting pushed) ≡ sum_by size (parts next.now) + sum_by size (waiting popped) =
    ap (sum_by size) push ∙ sum_by-append size (parts next.now) (waiting popped) in
    let one : size next.now ≡ suc (sum_by size (parts next.now)) = size_is next.now in
    omega arith

-- where all that wait are calls and variables, so are those that wait after a pop
pub pop_references : (left rest : List (Bor Expression)) (next : Bor Expression) → left ≡ rest ++ next ∷ [] →
    All IsReference (waiting left) → All IsReference (waiting rest)
pop_references left rest next pop = All-rest IsReference next.now (waiting rest) (waiting left) (ap waiting pop ∙ waiting_push rest next)
