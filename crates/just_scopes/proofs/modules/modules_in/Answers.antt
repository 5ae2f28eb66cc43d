use Rattle.std.proofs.Common.{◌≡◌, ◌++◌, [], ◌∷◌, map, length, rules, ◌∙◌, ap, sym}
use Rattle.std.proofs.lemmas.List.{length-map, map-append}
use Rattle.just_justfile.specs.declared.justfile.Justfile.{out-Justfile}
use Rattle.just_scopes.specs.loops.Preorder.{inner_modules, placed, waiting}
use Rattle.just_scopes.proofs.Preordering.{begins, walks_on, ends, fewer}
use Rattle.just_scopes.proofs.modules.modules_in.Goals as goal

pub loop-next-init : goal.loop-next-init
loop-next-init c = begins c.args.above c.args.root.now (map placed c.new-modules.result.items) (map placed c.push.new.self.items) (search rules) (search rules)

pub loop-next-smaller : goal.loop-next-smaller
loop-next-smaller c =
    let front = c.pop.new.self.items in
    fewer c.len.result (map placed front) (map placed c.loop-next.left.items) (map placed c.add_modules.new.left.items) (placed c.in-Some.next)
    (ap (map placed) c.in-Some.ensures.items ∙ map-append placed front (c.in-Some.next ∷ [])) c.in_ok-add_modules.ensures

pub loop-next-preserved : goal.loop-next-preserved
loop-next-preserved c =
    let front = c.pop.new.self.items in
    let long : c.len.result ≡ length c.loop-next.modules.items = search rules in
    let count : c.len.result ≡ length (map placed c.loop-next.modules.items) = long ∙ sym (length-map c.loop-next.modules.items placed) in
    let added : waiting c.add_modules.new.left.items ≡ inner_modules (length (map placed c.loop-next.modules.items)) c.in-Some.next.is_lazy (out-Justfile c.in-Some.next.justfile.now).modules ++ waiting front =
    c.in_ok-add_modules.ensures ∙ ap (λ n. inner_modules n c.in-Some.next.is_lazy (out-Justfile c.in-Some.next.justfile.now).modules ++ waiting front) count in
    let pushed : c.push-in-Some.new.self.items ≡ c.loop-next.modules.items ++ c.in-Some.next ∷ [] = search rules in
    walks_on c.args.above c.args.root.now (map placed c.loop-next.modules.items) (map placed c.loop-next.left.items) (map placed front) (map placed c.add_modules.new.left.items) (map placed c.push-in-Some.new.self.items) (placed c.in-Some.next)
    (ap (map placed) c.in-Some.ensures.items ∙ map-append placed front (c.in-Some.next ∷ [])) added (ap (map placed) pushed ∙ map-append placed c.loop-next.modules.items (c.in-Some.next ∷ [])) c.loop-next.invariant

pub returns : goal.returns
returns c = ends c.args.above c.args.root.now (map placed c.loop-next.modules.items) (map placed c.loop-next.left.items) (search rules) c.loop-next.invariant
