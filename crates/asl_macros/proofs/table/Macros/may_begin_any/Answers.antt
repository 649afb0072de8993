use Rattle.std.proofs.Common.{◌≡◌, Bool, true, false, refl, ap}
use Rattle.std.specs.Prelude.{◌||◌}
use Rattle.std.specs.Option.{option_map}
use Rattle.asl_macros.proofs.table.Macros.may_begin_any.Goals as goal

left : (a b : Bool) → (a || b) ≡ false → a ≡ false
left true b e = absurd cc
left false b e = refl

right : (a b : Bool) → (a || b) ≡ false → b ≡ false
right true b e = absurd cc
right false b e = e

pub returns-clause-a : goal.returns-clause-a
returns-clause-a c = λ no behind. ap (option_map (λ text. text.items)) (c.args.self.now.marked c.args.a behind (left _ _ (left _ _ (left _ _ no))))

pub returns-clause-b : goal.returns-clause-b
returns-clause-b c = λ no behind. ap (option_map (λ text. text.items)) (c.args.self.now.marked c.args.b behind (right _ _ (left _ _ (left _ _ no))))

pub returns-clause-c : goal.returns-clause-c
returns-clause-c c = λ no behind. ap (option_map (λ text. text.items)) (c.args.self.now.marked c.args.c behind (right _ _ (left _ _ no)))

pub returns-clause-d : goal.returns-clause-d
returns-clause-d c = λ no behind. ap (option_map (λ text. text.items)) (c.args.self.now.marked c.args.d behind (right _ _ no))
