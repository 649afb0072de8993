use Rattle.std.proofs.Common.{◌≡◌, ℕ, ◌+◌, ◌-◌, ◌≤◌, List, ◌∷◌, [], length, take, drop, sym, ap, ◌∙◌, arith, length-take, length-drop}
use Rattle.std.proofs.lemmas.List.{take_all}
use Rattle.asl_lexer.proofs.Runs.{spaces_more}
use Rattle.asl_lexer.proofs.run.whitespace_width.Goals as goal

has_four : (bs : List ℕ) (i : ℕ) → i ≤ length bs → take 4 (drop i bs) ≡ 32 ∷ 32 ∷ 32 ∷ 32 ∷ [] → i + 4 ≤ length bs
has_four bs i h are = omega (arith, ap length are, length-take 4 (drop i bs), length-drop i bs)

pub loop-width-preserved : goal.loop-width-preserved
loop-width-preserved c =
    let bs = c.args.bytes.now in
    let i = c.loop-width.width in
    let are : take 4 (drop i bs) ≡ 32 ∷ 32 ∷ 32 ∷ 32 ∷ [] = ap (take 4) (sym (take_all (length bs - i) (drop i bs) (omega (arith, length-drop i bs)))) ∙ c.are_spaces.ensures c.loop-width-test.true in
    record {
      within = has_four bs i c.loop-width.invariant.within are;
      counted = omega (arith, c.loop-width.invariant.counted, spaces_more bs i are);
    }
