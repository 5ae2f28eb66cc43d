use Rattle.std.proofs.Common.{rules}
use Rattle.just_listings.proofs.Walks.{begins, ends, fewer, walks_on}
use Rattle.just_listings.proofs.walk.preorder.Goals as goal

pub loop-next-smaller : goal.loop-next-smaller
loop-next-smaller c =
    fewer c.args.choice c.loop-next.left.items c.pop.new.self.items c.in_ok-inner.inner.items c.reverse.new.self.items c.append.new.self.items c.in-Some.next
    c.in-Some.ensures.items c.in_ok-inner.ensures c.reverse.ensures.items c.in_ok-append.ensures.items

pub loop-next-preserved : goal.loop-next-preserved
loop-next-preserved c =
    walks_on c.args.choice c.args.root.now c.loop-next.listed.items c.loop-next.left.items c.pop.new.self.items c.in_ok-inner.inner.items c.reverse.new.self.items c.append.new.self.items c.push-in-Some.new.self.items c.in-Some.next
    c.in-Some.ensures.items c.in_ok-inner.ensures c.reverse.ensures.items c.in_ok-append.ensures.items c.in_ok-push-2.ensures.items c.loop-next.invariant

pub returns : goal.returns
returns c = ends c.args.choice c.args.root.now c.loop-next.listed.items c.loop-next.left.items (search rules) c.loop-next.invariant
