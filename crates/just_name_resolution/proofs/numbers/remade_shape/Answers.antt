use Rattle.std.proofs.Common.{ap, reverse, sym, ◌∙◌}
use Rattle.just_ast_expressions.specs.declared.expression.Shape.TheVariants as shape
use Rattle.just_name_resolution.specs.Numbers.{number_in}
use Rattle.just_name_resolution.proofs.Remade.{all_waits, first_waits, others_wait, second_waits, third_waits, optional_waits, last_waits, none_made, variable_made, one_made, two_made, many_made, assert_made, conditional_made, join_made}
use Rattle.just_name_resolution.proofs.numbers.remade_shape.Goals as goal
use Rattle.just_ast_references.proofs.NumbersOf as numbers
use Rattle.just_ast_expressions.proofs.PartsOf as parts

pub taken-requires : goal.taken-requires
taken-requires g c = first_waits c.in-And.is (parts.parts_of-And c.in-And.lhs c.in-And.rhs) c.requires.count

pub taken-requires-in-And : goal.taken-requires-in-And
taken-requires-in-And g c = second_waits c.in-And.is (parts.parts_of-And c.in-And.lhs c.in-And.rhs) c.requires.count c.taken.ensures.left

pub returns-in-And : goal.returns-in-And
returns-in-And g c =
    two_made (number_in (g.S.Syntax.answers c.args.numbers.now.syntax.now) c.args.numbers.now)
    c.args.shape.now (reverse c.args.built.now.items) c.requires.parts shape.And c.in-And.lhs c.in-And.rhs
    parts.parts_of-And numbers.numbers_of-And c.in-And.is c.taken.ensures.items c.taken-in-And.ensures.items

pub taken-requires-in-Assert : goal.taken-requires-in-Assert
taken-requires-in-Assert g c = first_waits c.in-Assert.is (parts.parts_of-Assert c.in-Assert.condition c.in-Assert.message) c.requires.count

pub optional_taken-requires : goal.optional_taken-requires
optional_taken-requires g c =
    others_wait c.in-Assert.is (parts.parts_of-Assert c.in-Assert.condition c.in-Assert.message) c.requires.count c.taken-in-Assert.ensures.left

pub returns-in-Assert : goal.returns-in-Assert
returns-in-Assert g c =
    assert_made (number_in (g.S.Syntax.answers c.args.numbers.now.syntax.now) c.args.numbers.now)
    c.args.shape.now (reverse c.args.built.now.items) c.requires.parts c.in-Assert.condition c.in-Assert.message c.optional_taken.result
    (reverse c.optional_taken.new.built.items)
    c.in-Assert.is c.taken-in-Assert.ensures.items c.optional_taken.ensures.items c.optional_taken.ensures.count

pub returns-in_ok-clone-in-Backtick : goal.returns-in_ok-clone-in-Backtick
returns-in_ok-clone-in-Backtick g c =
    none_made (number_in (g.S.Syntax.answers c.args.numbers.now.syntax.now) c.args.numbers.now)
    c.args.shape.now (reverse c.args.built.now.items) c.requires.parts shape.Backtick c.in-Backtick.contents
    (parts.parts_of-Backtick c.in_ok-clone-in-Backtick.field-0) numbers.numbers_of-Backtick c.in-Backtick.is c.in_ok-clone-in-Backtick.ensures.cases

pub all_taken-requires : goal.all_taken-requires
all_taken-requires g c = all_waits c.in-Call.is (parts.parts_of-Call c.in-Call.name c.in-Call.arguments) c.requires.count c.len.ensures

pub returns-in_ok-all_taken-in-Call : goal.returns-in_ok-all_taken-in-Call
returns-in_ok-all_taken-in-Call g c =
    many_made (number_in (g.S.Syntax.answers c.args.numbers.now.syntax.now) c.args.numbers.now)
    c.args.shape.now (reverse c.args.built.now.items) c.requires.parts (shape.Call c.copied.result) c.in-Call.arguments
    c.in_ok-all_taken-in-Call.field-0 (reverse c.all_taken.new.built.items)
    (parts.parts_of-Call c.copied.result) (λ names. numbers.numbers_of-Call names c.copied.result)
    (c.in-Call.is ∙ ap (λ n. shape.Call n c.in-Call.arguments) (sym c.copied.ensures)) c.len.ensures c.in_ok-all_taken-in-Call.ensures.made
    c.in_ok-all_taken-in-Call.ensures.items

pub taken-requires-in-Comparison : goal.taken-requires-in-Comparison
taken-requires-in-Comparison g c =
    first_waits c.in-Comparison.is (parts.parts_of-Comparison c.in-Comparison.operator c.in-Comparison.lhs c.in-Comparison.rhs) c.requires.count

pub taken-requires-in-Comparison-2 : goal.taken-requires-in-Comparison-2
taken-requires-in-Comparison-2 g c =
    second_waits c.in-Comparison.is (parts.parts_of-Comparison c.in-Comparison.operator c.in-Comparison.lhs c.in-Comparison.rhs) c.requires.count c.taken-in-Comparison.ensures.left

pub returns-in-Comparison : goal.returns-in-Comparison
returns-in-Comparison g c =
    two_made (number_in (g.S.Syntax.answers c.args.numbers.now.syntax.now) c.args.numbers.now)
    c.args.shape.now (reverse c.args.built.now.items) c.requires.parts (shape.Comparison c.in-Comparison.operator) c.in-Comparison.lhs
    c.in-Comparison.rhs
    (parts.parts_of-Comparison c.in-Comparison.operator) (λ names. numbers.numbers_of-Comparison names c.in-Comparison.operator) c.in-Comparison.is
    c.taken-in-Comparison.ensures.items c.taken-in-Comparison-2.ensures.items

pub taken-requires-in-Concatenation : goal.taken-requires-in-Concatenation
taken-requires-in-Concatenation g c =
    first_waits c.in-Concatenation.is (parts.parts_of-Concatenation c.in-Concatenation.lhs c.in-Concatenation.rhs) c.requires.count

pub taken-requires-in-Concatenation-2 : goal.taken-requires-in-Concatenation-2
taken-requires-in-Concatenation-2 g c =
    second_waits c.in-Concatenation.is (parts.parts_of-Concatenation c.in-Concatenation.lhs c.in-Concatenation.rhs) c.requires.count c.taken-in-Concatenation.ensures.left

pub returns-in-Concatenation : goal.returns-in-Concatenation
returns-in-Concatenation g c =
    two_made (number_in (g.S.Syntax.answers c.args.numbers.now.syntax.now) c.args.numbers.now)
    c.args.shape.now (reverse c.args.built.now.items) c.requires.parts shape.Concatenation c.in-Concatenation.lhs c.in-Concatenation.rhs
    parts.parts_of-Concatenation numbers.numbers_of-Concatenation c.in-Concatenation.is c.taken-in-Concatenation.ensures.items
    c.taken-in-Concatenation-2.ensures.items

pub taken-requires-in-Conditional : goal.taken-requires-in-Conditional
taken-requires-in-Conditional g c =
    first_waits c.in-Conditional.is (parts.parts_of-Conditional c.in-Conditional.condition c.in-Conditional.then c.in-Conditional.otherwise) c.requires.count

pub taken-requires-in-Conditional-2 : goal.taken-requires-in-Conditional-2
taken-requires-in-Conditional-2 g c =
    second_waits c.in-Conditional.is (parts.parts_of-Conditional c.in-Conditional.condition c.in-Conditional.then c.in-Conditional.otherwise) c.requires.count c.taken-in-Conditional.ensures.left

pub optional_taken-requires-in-Conditional : goal.optional_taken-requires-in-Conditional
optional_taken-requires-in-Conditional g c =
    third_waits c.in-Conditional.is (parts.parts_of-Conditional c.in-Conditional.condition c.in-Conditional.then c.in-Conditional.otherwise)
    c.requires.count c.taken-in-Conditional.ensures.left c.taken-in-Conditional-2.ensures.left

pub returns-in-Conditional : goal.returns-in-Conditional
returns-in-Conditional g c =
    conditional_made (number_in (g.S.Syntax.answers c.args.numbers.now.syntax.now) c.args.numbers.now)
    c.args.shape.now (reverse c.args.built.now.items) c.requires.parts c.in-Conditional.condition c.in-Conditional.then c.in-Conditional.otherwise
    c.optional_taken-in-Conditional.result (reverse c.optional_taken-in-Conditional.new.built.items)
    c.in-Conditional.is c.taken-in-Conditional.ensures.items c.taken-in-Conditional-2.ensures.items c.optional_taken-in-Conditional.ensures.items
    c.optional_taken-in-Conditional.ensures.count

pub all_taken-requires-in-FormatString : goal.all_taken-requires-in-FormatString
all_taken-requires-in-FormatString g c =
    all_waits c.in-FormatString.is (parts.parts_of-FormatString c.in-FormatString.texts c.in-FormatString.expressions) c.requires.count c.len-in-FormatString.ensures

pub returns-in_ok-all_taken-in-FormatString : goal.returns-in_ok-all_taken-in-FormatString
returns-in_ok-all_taken-in-FormatString g c =
    many_made (number_in (g.S.Syntax.answers c.args.numbers.now.syntax.now) c.args.numbers.now)
    c.args.shape.now (reverse c.args.built.now.items) c.requires.parts (shape.FormatString c.in_ok-clone-in-FormatString.field-0)
    c.in-FormatString.expressions c.in_ok-all_taken-in-FormatString.field-0 (reverse c.all_taken-in-FormatString.new.built.items)
    (parts.parts_of-FormatString c.in_ok-clone-in-FormatString.field-0)
    (λ names. numbers.numbers_of-FormatString names c.in_ok-clone-in-FormatString.field-0)
    (c.in-FormatString.is ∙ ap (λ ts. shape.FormatString ts c.in-FormatString.expressions) (sym c.in_ok-clone-in-FormatString.ensures.cases))
    c.len-in-FormatString.ensures c.in_ok-all_taken-in-FormatString.ensures.made c.in_ok-all_taken-in-FormatString.ensures.items

pub taken-requires-in-Group : goal.taken-requires-in-Group
taken-requires-in-Group g c = first_waits c.in-Group.is (parts.parts_of-Group c.in-Group.contents) c.requires.count

pub returns-in-Group : goal.returns-in-Group
returns-in-Group g c =
    one_made (number_in (g.S.Syntax.answers c.args.numbers.now.syntax.now) c.args.numbers.now)
    c.args.shape.now (reverse c.args.built.now.items) c.requires.parts shape.Group c.in-Group.contents
    parts.parts_of-Group numbers.numbers_of-Group c.in-Group.is c.taken-in-Group.ensures.items

pub optional_taken-requires-in-Join : goal.optional_taken-requires-in-Join
optional_taken-requires-in-Join g c =
    optional_waits c.in-Join.lhs c.in-Join.rhs c.in-Join.is (parts.parts_of-Join c.in-Join.lhs c.in-Join.rhs) c.requires.count

pub taken-requires-in-Join : goal.taken-requires-in-Join
taken-requires-in-Join g c =
    last_waits c.in-Join.lhs c.in-Join.rhs c.in-Join.is (parts.parts_of-Join c.in-Join.lhs c.in-Join.rhs) c.requires.count c.optional_taken-in-Join.ensures.left

pub returns-in-Join : goal.returns-in-Join
returns-in-Join g c =
    join_made (number_in (g.S.Syntax.answers c.args.numbers.now.syntax.now) c.args.numbers.now)
    c.args.shape.now (reverse c.args.built.now.items) c.requires.parts c.in-Join.lhs c.optional_taken-in-Join.result c.in-Join.rhs
    (reverse c.optional_taken-in-Join.new.built.items)
    c.in-Join.is c.optional_taken-in-Join.ensures.items c.optional_taken-in-Join.ensures.count c.taken-in-Join.ensures.items

pub all_taken-requires-in-List : goal.all_taken-requires-in-List
all_taken-requires-in-List g c = all_waits c.in-List.is (parts.parts_of-List c.in-List.elements) c.requires.count c.len-in-List.ensures

pub returns-in_ok-all_taken-in-List : goal.returns-in_ok-all_taken-in-List
returns-in_ok-all_taken-in-List g c =
    many_made (number_in (g.S.Syntax.answers c.args.numbers.now.syntax.now) c.args.numbers.now)
    c.args.shape.now (reverse c.args.built.now.items) c.requires.parts shape.List c.in-List.elements c.in_ok-all_taken-in-List.field-0
    (reverse c.all_taken-in-List.new.built.items)
    parts.parts_of-List numbers.numbers_of-List c.in-List.is c.len-in-List.ensures c.in_ok-all_taken-in-List.ensures.made
    c.in_ok-all_taken-in-List.ensures.items

pub taken-requires-in-ListConcatenation : goal.taken-requires-in-ListConcatenation
taken-requires-in-ListConcatenation g c =
    first_waits c.in-ListConcatenation.is (parts.parts_of-ListConcatenation c.in-ListConcatenation.lhs c.in-ListConcatenation.rhs) c.requires.count

pub taken-requires-in-ListConcatenation-2 : goal.taken-requires-in-ListConcatenation-2
taken-requires-in-ListConcatenation-2 g c =
    second_waits c.in-ListConcatenation.is (parts.parts_of-ListConcatenation c.in-ListConcatenation.lhs c.in-ListConcatenation.rhs) c.requires.count c.taken-in-ListConcatenation.ensures.left

pub returns-in-ListConcatenation : goal.returns-in-ListConcatenation
returns-in-ListConcatenation g c =
    two_made (number_in (g.S.Syntax.answers c.args.numbers.now.syntax.now) c.args.numbers.now)
    c.args.shape.now (reverse c.args.built.now.items) c.requires.parts shape.ListConcatenation c.in-ListConcatenation.lhs c.in-ListConcatenation.rhs
    parts.parts_of-ListConcatenation numbers.numbers_of-ListConcatenation c.in-ListConcatenation.is c.taken-in-ListConcatenation.ensures.items
    c.taken-in-ListConcatenation-2.ensures.items

pub taken-requires-in-Not : goal.taken-requires-in-Not
taken-requires-in-Not g c = first_waits c.in-Not.is (parts.parts_of-Not c.in-Not.operand) c.requires.count

pub returns-in-Not : goal.returns-in-Not
returns-in-Not g c =
    one_made (number_in (g.S.Syntax.answers c.args.numbers.now.syntax.now) c.args.numbers.now)
    c.args.shape.now (reverse c.args.built.now.items) c.requires.parts shape.Not c.in-Not.operand
    parts.parts_of-Not numbers.numbers_of-Not c.in-Not.is c.taken-in-Not.ensures.items

pub taken-requires-in-Or : goal.taken-requires-in-Or
taken-requires-in-Or g c = first_waits c.in-Or.is (parts.parts_of-Or c.in-Or.lhs c.in-Or.rhs) c.requires.count

pub taken-requires-in-Or-2 : goal.taken-requires-in-Or-2
taken-requires-in-Or-2 g c = second_waits c.in-Or.is (parts.parts_of-Or c.in-Or.lhs c.in-Or.rhs) c.requires.count c.taken-in-Or.ensures.left

pub returns-in-Or : goal.returns-in-Or
returns-in-Or g c =
    two_made (number_in (g.S.Syntax.answers c.args.numbers.now.syntax.now) c.args.numbers.now)
    c.args.shape.now (reverse c.args.built.now.items) c.requires.parts shape.Or c.in-Or.lhs c.in-Or.rhs
    parts.parts_of-Or numbers.numbers_of-Or c.in-Or.is c.taken-in-Or.ensures.items c.taken-in-Or-2.ensures.items

pub returns-in_ok-clone-in-StringLiteral : goal.returns-in_ok-clone-in-StringLiteral
returns-in_ok-clone-in-StringLiteral g c =
    none_made (number_in (g.S.Syntax.answers c.args.numbers.now.syntax.now) c.args.numbers.now)
    c.args.shape.now (reverse c.args.built.now.items) c.requires.parts shape.StringLiteral c.in-StringLiteral.cooked
    (parts.parts_of-StringLiteral c.in_ok-clone-in-StringLiteral.field-0) numbers.numbers_of-StringLiteral c.in-StringLiteral.is
    c.in_ok-clone-in-StringLiteral.ensures.cases

pub returns-in-Variable : goal.returns-in-Variable
returns-in-Variable g c =
    variable_made (number_in (g.S.Syntax.answers c.args.numbers.now.syntax.now) c.args.numbers.now)
    c.args.shape.now (reverse c.args.built.now.items) c.requires.parts c.in-Variable.name c.in-Variable.number
    c.in-Variable.is c.copied-in-Variable.ensures c.number_of.ensures
