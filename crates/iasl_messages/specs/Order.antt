-- The order of the messages on the console.
use Rattle.std.specs.Prelude.{List, [], ◌∷◌, if◌then◌else◌}
use Rattle.std.specs.declared.cmp.Ordering.{Ordering}
use Rattle.std.specs.Ordering.{nat_cmp, ordering_then, is_lt}
use Rattle.std.specs.Cmp.Lexicographic.{slice_cmp}
use Rattle.iasl_messages.specs.declared.place.Place.{Place}
use Rattle.iasl_messages.specs.declared.message.Message.{Message}

-- two places: by file, then by line, then by column
abbrev pub place_order : Place → Place → Ordering
place_order a b = ordering_then (nat_cmp a.file b.file) (ordering_then (nat_cmp a.line b.line) (nat_cmp a.column b.column))

-- two messages: by place, then by number, then by name, byte by byte
abbrev pub message_order : Message → Message → Ordering
message_order a b = ordering_then (place_order a.place b.place)
    (ordering_then (nat_cmp a.number b.number) (slice_cmp nat_cmp a.name b.name))

-- x before the first element that is not less
unfoldable pub inserted : {X : Type 0} → (X → X → Ordering) → X → List X → List X
inserted order x [] = x ∷ []
inserted order x (y ∷ ys) = if is_lt (order y x) then y ∷ inserted order x ys else x ∷ y ∷ ys

-- the elements in ascending order
unfoldable pub ascending : {X : Type 0} → (X → X → Ordering) → List X → List X
ascending order [] = []
ascending order (x ∷ xs) = inserted order x (ascending order xs)

-- the messages in order
abbrev pub sorted_messages : List Message → List Message
sorted_messages messages = ascending message_order messages
