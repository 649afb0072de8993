use Rattle.std.proofs.Common.{◌≡◌, ◌++◌, ◌∷◌, [], false}
use Rattle.iasl_backends.proofs.EachLaws.{EachSoFar}
use Rattle.iasl_backends.proofs.lent.piece_all.Given as goal

abbrev pub invariant-loop-i : goal.invariant-loop-i
invariant-loop-i g l = record {
  so_far : EachSoFar (λ b b2. ((goal.Backend-dyn g (b2.vtable, b2.value)).kind_of b2.value ≡ (goal.Backend-dyn g (b.vtable, b.value)).kind_of b.value)
      × ((goal.Backend-dyn g (b2.vtable, b2.value)).pieces b2.value ≡ (goal.Backend-dyn g (b.vtable, b.value)).pieces b.value ++ l.piece ∷ [])
      × ((goal.Backend-dyn g (b2.vtable, b2.value)).finished b2.value ≡ false))
      l.i l.initial.backends.items l.backends.items;
}
