use Rattle.std.proofs.Common.{◌≡◌, ◌++◌, Bor, map}
use Rattle.std.specs.HashMap.{get}
use Rattle.std.specs.Map.{keys_of, values_of}
use Rattle.just_parts.specs.Asts.{AstKey, same_ast_key}
use Rattle.just_parts.specs.Items.{Ast}
use Rattle.just_module_headers.specs.Files.{HasPlaces}
use Rattle.just_module_headers.proofs.files.Files.new.Given as goal

abbrev pub invariant-loop-key : goal.invariant-loop-key
invariant-loop-key l =
    let keys = map (λ (k : Bor AstKey). k.now) l.keys.items in
    let asts = map (λ (a : Bor Ast). a.now) l.lent.items in
    (goal.iterator-loop-key).can_next l.key-iterator ×
    (goal.iterator-loop-key).is_finite l.key-iterator ×
    (keys ++ keys_of l.key-iterator ≡ keys_of l.asts.entries) ×
    (asts ++ values_of l.key-iterator ≡ values_of l.asts.entries) ×
    HasPlaces keys (get same_ast_key l.places)
