-- What `sort_by` gives where each call compares two messages by their order.
use Rattle.std.proofs.Common.{◌≡◌, List, ap, Ordering}
use Rattle.std.specs.List.Sorted.{IsSorted, IsSortedByClosure}
use Rattle.std.specs.Ordering.{is_lt}
use Rattle.std.specs.Borrow.{Bor}
use Rattle.std.specs.Fn.{Called}
use denote.Param.Members.{Mut}
use Rattle.std.proofs.lemmas.Fn.{always_returns_same}
use Rattle.iasl_messages.specs.declared.message.Message.{Message}
use Rattle.iasl_messages.specs.Order.{message_order}
use Rattle.iasl_messages.specs.OrderLaws.{less, weak, message_total}

pub sorted_from_calls : {F : Type 0} {g : Mut F (Bor Message × (Bor Message × Unit {0})) Ordering} {f : F} (xs : List Message) → IsSortedByClosure g f xs → ((a : Bor Message × (Bor Message × Unit {0})) (r : Ordering) (f' : F) → Called g f a r f' → (r ≡ message_order a.0.now a.1.0.now) × (f' ≡ f)) → IsSorted message_order xs
sorted_from_calls {F} {g} {f} xs sorted calls =
    sorted (less message_order) (weak message_order message_total) (always_returns_same g (λ a r. is_lt r ≡ less message_order a.0.now a.1.0.now) f (λ a r f' k. (ap is_lt (calls a r f' k).0, (calls a r f' k).1)))
