use Rattle.std.proofs.Common.{rules, arith, ◌≡◌, ◌∙◌, Bor, length, map, [], ◌∷◌, ◌++◌, ap, sym}
use Rattle.std.specs.HashMap.{get}
use Rattle.std.specs.Map.{keys_of, values_of}
use Rattle.std.proofs.lemmas.Grind.{common_steps}
use Rattle.std.proofs.lemmas.List.{append_assoc, length-map, map-append}
use Rattle.just_parts.specs.Asts.{AstKey, same_ast_key}
use Rattle.just_parts.specs.Items.{Ast}
use Rattle.just_module_headers.proofs.Placing.{leads_more}
use Rattle.just_module_headers.proofs.files.Files.new.Goals as goal

pub loop-key-preserved : goal.loop-key-preserved
loop-key-preserved c =
    let now : Bor AstKey → AstKey = λ k. k.now in
    let said : Bor Ast → Ast = λ a. a.now in
    let same : (c.in_ok-clone.field-0, c.in_ok-file.file) ≡ c.in-Some.key.now = λ i. (c.in_ok-clone.ensures.cases i, (c.in_ok-file.ensures ∙ c.as_str.ensures) i) in
    let pushed : map now c.push.new.self.items ≡ map now c.loop-key.keys.items ++ c.in-Some.key.now ∷ [] = ap (map now) c.in_ok-push.ensures.items ∙ map-append now c.loop-key.keys.items (c.in-Some.key ∷ []) in
    let count : c.len-in-loop-key.result ≡ length c.loop-key.keys.items = grind (arith, common_steps) in (
      search rules,
      search rules,
      ap (λ ks. ks ++ keys_of c.next.new.self) pushed ∙ append_assoc (map now c.loop-key.keys.items) (c.in-Some.key.now ∷ []) (keys_of c.next.new.self)
          ∙ ap (λ es. map now c.loop-key.keys.items ++ keys_of es) (sym c.in-Some.ensures.steps) ∙ c.loop-key.invariant.2,
      ap (λ xs. map said xs ++ values_of c.next.new.self) c.in_ok-push-2.ensures.items ∙ ap (λ xs. xs ++ values_of c.next.new.self) (map-append said c.loop-key.lent.items (c.in-Some.ast ∷ []))
          ∙ append_assoc (map said c.loop-key.lent.items) (c.in-Some.ast.now ∷ []) (values_of c.next.new.self)
          ∙ ap (λ es. map said c.loop-key.lent.items ++ values_of es) (sym c.in-Some.ensures.steps) ∙ c.loop-key.invariant.3,
      leads_more (map now c.loop-key.keys.items) (map now c.push.new.self.items) c.in-Some.key.now (c.in_ok-clone.field-0, c.in_ok-file.file) c.len-in-loop-key.result (get same_ast_key c.loop-key.places)
          (get same_ast_key c.insert.new.self) (count ∙ sym (length-map c.loop-key.keys.items now)) same pushed c.in_ok-insert.ensures.updates.0 c.loop-key.invariant.4,
    )
