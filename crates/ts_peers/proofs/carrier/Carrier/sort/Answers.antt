-- One message more.
use Rattle.std.proofs.Common.{arith, ◌≡◌, ap, length, map, subst, sym}
use Rattle.ts_peers.proofs.Sorting.{SoFar, added, at_the_end, heard_one, none_yet, to_line}
use Rattle.ts_peers.proofs.carrier.Carrier.sort.Goals as goal

pub loop-message-init : goal.loop-message-init
loop-message-init c =
    let given = c.args.given.now in
    let now = c.args.now in
    let lines = c.args.self.now.lines.items in
    let gate = c.args.self.now.gate in
    let begin = none_yet given now lines gate c.messages_in-message-items.result.items c.messages_in-message-items.ensures in
    let none = subst (λ own. SoFar given now lines lines gate gate (map (λ frame. frame.items) own)
    c.messages_in-message-items.result.items) (sym c.new-own.ensures.items) begin in
    subst (λ rest. SoFar given now lines lines gate gate (map (λ frame. frame.items) c.new-own.result.items) rest) (sym
    c.into_iter-message-iterator.ensures.into_iter_gives.0) none

pub loop-message-preserved-in_default : goal.loop-message-preserved-in_default
loop-message-preserved-in_default c =
    let self = c.loop-message.self in
    let own = map (λ frame. frame.items) c.loop-message.own.items in
    let so = subst (λ rest. SoFar c.args.given.now c.args.now c.args.self.now.lines.items self.lines.items c.args.self.now.gate self.gate
    own rest) c.in-Some.ensures.steps.0 c.loop-message.invariant in
    let at = heard_one c.args.given.now c.args.now c.args.self.now.lines.items self.lines.items c.see_message.new.self.lines.items
    c.args.self.now.gate self.gate c.see_message.new.self.gate own c.in-Some.message c.next.new.self.rest.items (ap (λ lines. lines.items)
    c.see_message.ensures.lines) c.see_message.ensures.heard so in
    at.so

pub loop-message-preserved-then-from-to : goal.loop-message-preserved-then-from-to
loop-message-preserved-then-from-to c =
    let self = c.loop-message.self in
    let own = map (λ frame. frame.items) c.loop-message.own.items in
    let so = subst (λ rest. SoFar c.args.given.now c.args.now c.args.self.now.lines.items self.lines.items c.args.self.now.gate self.gate
    own rest) c.in-Some.ensures.steps.0 c.loop-message.invariant in
    let at = heard_one c.args.given.now c.args.now c.args.self.now.lines.items self.lines.items c.see_message.new.self.lines.items
    c.args.self.now.gate self.gate c.see_message.new.self.gate own c.in-Some.message c.next.new.self.rest.items (ap (λ lines. lines.items)
    c.see_message.ensures.lines) c.see_message.ensures.heard so in
    added c.args.given.now c.args.now c.args.self.now.lines.items c.see_message.new.self.lines.items c.args.self.now.gate
    c.see_message.new.self.gate c.loop-message.own.items c.add_frame.new.frames.items c.in-Some.message c.next.new.self.rest.items
    c.in-Some-octets_of.frame c.in-Some-octets_of.ensures c.if-from-to.true c.add_frame.ensures at

pub loop-message-preserved : goal.loop-message-preserved
loop-message-preserved c =
    let self = c.loop-message.self in
    let own = map (λ frame. frame.items) c.loop-message.own.items in
    let so = subst (λ rest. SoFar c.args.given.now c.args.now c.args.self.now.lines.items self.lines.items c.args.self.now.gate self.gate
    own rest) c.in-Some.ensures.steps.0 c.loop-message.invariant in
    let at = heard_one c.args.given.now c.args.now c.args.self.now.lines.items self.lines.items c.see_message.new.self.lines.items
    c.args.self.now.gate self.gate c.see_message.new.self.gate own c.in-Some.message c.next.new.self.rest.items (ap (λ lines. lines.items)
    c.see_message.ensures.lines) c.see_message.ensures.heard so in
    to_line c.args.given.now c.args.now c.args.self.now.lines.items c.see_message.new.self.lines.items c.hand_on.new.self.lines.items
    c.args.self.now.gate c.see_message.new.self.gate c.hand_on.new.self.gate own c.in-Some.message c.next.new.self.rest.items
    c.in-Some-octets_of.frame.items c.in-Some-octets_of.ensures c.if-from-to.false c.hand_on.ensures.lines c.hand_on.ensures.gate at

pub returns : goal.returns
returns c =
    let rest = c.loop-message.message-iterator.rest in
    let none : length rest.items ≡ 0 = omega (arith, rest.ok, c.in-None.ensures.steps.0) in
    at_the_end c.args.given.now c.args.now c.args.self.now.lines.items c.loop-message.self.lines.items c.args.self.now.gate
    c.loop-message.self.gate (map (λ frame. frame.items) c.loop-message.own.items) rest.items none c.loop-message.invariant
