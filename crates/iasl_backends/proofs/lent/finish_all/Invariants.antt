use Rattle.std.proofs.Common.{◌≡◌, ◌++◌, ◌∷◌, [], true}
use Rattle.iasl_backends.proofs.EachLaws.{EachSoFar}
use Rattle.iasl_backends.proofs.lent.finish_all.Given as goal

abbrev pub invariant-loop-i : goal.invariant-loop-i
invariant-loop-i g l = record {
  so_far : EachSoFar (λ b b2. ((goal.Backend-dyn g (b2.vtable, b2.value)).kind_of b2.value ≡ (goal.Backend-dyn g (b.vtable, b.value)).kind_of b.value)
      × ((goal.Backend-dyn g (b2.vtable, b2.value)).pieces b2.value ≡ (goal.Backend-dyn g (b.vtable, b.value)).pieces b.value)
      × ((goal.Backend-dyn g (b2.vtable, b2.value)).finished b2.value ≡ true))
      l.i l.initial.backends.items l.backends.items;
}
