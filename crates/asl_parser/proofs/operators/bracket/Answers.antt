use Rattle.std.proofs.Common.{◌≡◌, ◌+◌, suc, ◌<◌, ◌≤◌, true, refl, sym, ap, ◌∙◌, arith}
use Rattle.asl_syntax.specs.declared.mark.Lexeme.TheVariants as l
use Rattle.asl_syntax.specs.declared.sign.Sign.TheVariants as s
use Rattle.asl_syntax.specs.Grow.{limit}
use Rattle.asl_syntax.specs.Frames.{depth, room}
use Rattle.asl_syntax.specs.Marks.{mark, lexeme}
use Rattle.asl_parser.specs.Operating.{AppliesNode}
use Rattle.asl_parser.specs.Pairs.{plain, HoldsNode}
use Rattle.asl_parser.proofs.Bracketed.{held_one, applies_one, bracket_on}
use Rattle.asl_parser.proofs.operators.bracket.Goals as goal

pub apply_plain-requires-clause-one : goal.apply_plain-requires-clause-one
apply_plain-requires-clause-one c =
    held_one true (plain (mark (c.args.at + 1) c.index-tokens-at.result)) c.args.stack.now c.hold_leaf.new.stack refl c.requires.none c.in_ok-hold_leaf.ensures

pub returns : goal.returns
returns c =
    let a = c.args in let t = c.args.first.now in let u = c.index-tokens-at.result in let v = c.index-tokens-at-4.result in let w = c.index-tokens-at-2.result in let x = c.index-tokens-at-3.result in
    let op = c.in-Sign-Binary.op in let m = plain (mark (a.at + 1) u) in let old = a.stack.now in let mid = c.hold_leaf.new.stack in let new = c.apply_plain.new.stack in
    let right : lexeme x ≡ l.Sign s.RightParen = sym c.in-Sign-RightParen.ensures ∙ ap l.Sign c.in-Sign-RightParen.field-0-is in
    let sign : lexeme v ≡ l.Sign (s.Binary op) = sym c.in-Sign-Binary.ensures ∙ ap l.Sign c.in-Sign-Binary.field-0-is in
    let made : AppliesNode (plain (mark (a.at + 3) w)) (mark (a.at + 2) v).spot op mid new = c.in_ok-apply_plain.ensures in
    let holds : HoldsNode true m old mid = c.in_ok-hold_leaf.ensures in
    let one = held_one true m old mid refl c.requires.none holds in
    let low : suc (depth old.1) < limit = omega (arith, c.requires.low) in
    let high : 1 ≤ room old.1 = omega (arith, c.if-room-lt1.false, c.room.ensures) in (
      applies_one (plain (mark (a.at + 3) w)) (mark (a.at + 2) v).spot op mid new made,
      λ q begins. bracket_on a.tokens.now a.at t u v w x q op c.in-Some._strength old mid new c.requires.within c.requires.first c.index-tokens-at.is c.index-tokens-at-4.is c.index-tokens-at-2.is c.index-tokens-at-3.is low high
          c.requires.none c.requires.paren holds sign (sym c.in-Some.ensures) made right one begins,
    )
