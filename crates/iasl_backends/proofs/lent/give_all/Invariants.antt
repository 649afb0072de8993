use Rattle.std.proofs.Common.{◌≡◌, ◌++◌, take, false}
use Rattle.std.specs.List.{All}
use Rattle.iasl_backends.specs.Each.{Each}
use Rattle.iasl_backends.proofs.lent.give_all.Given as goal

abbrev pub invariant-loop-piece : goal.invariant-loop-piece
invariant-loop-piece g l = record {
  fed : Each (λ b b2. ((goal.Backend-dyn g (b2.vtable, b2.value)).kind_of b2.value ≡ (goal.Backend-dyn g (b.vtable, b.value)).kind_of b.value)
      × ((goal.Backend-dyn g (b2.vtable, b2.value)).pieces b2.value ≡ (goal.Backend-dyn g (b.vtable, b.value)).pieces b.value ++ take l.piece-index l.table)
      × ((goal.Backend-dyn g (b2.vtable, b2.value)).finished b2.value ≡ false))
      l.initial.backends.items l.backends.items;
  open_yet : All (λ b. (goal.Backend-dyn g (b.vtable, b.value)).finished b.value ≡ false) l.backends.items;
}
