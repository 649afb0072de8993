use Rattle.std.proofs.Common.{◌≡◌, ◌≢◌, take}
use Rattle.std.specs.List.{All}
use Rattle.iasl_backends.proofs.lent.text_of_kind.Given as goal

abbrev pub invariant-loop-backend : goal.invariant-loop-backend
invariant-loop-backend g l = record {
  none_yet : All (λ b. (goal.Backend-dyn g (b.vtable, b.value)).kind_of b.value ≢ l.kind) (take l.backend-index l.backends.items);
}
