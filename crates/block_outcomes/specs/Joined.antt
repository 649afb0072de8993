-- What blocks come to together.
use Rattle.std.specs.Prelude.{ℕ, nat_le, nat_eq, Bool, true, false, ◌&&◌, ◌||◌, if◌then◌else◌, List, [], ◌∷◌, ◌++◌, Option, Some, None}
use Rattle.iasl_messages.specs.declared.message.Message.{Message}
use Rattle.block_outcomes.specs.declared.outcome.Class.{Class}
use Rattle.block_outcomes.specs.declared.outcome.Class.TheVariants as class
use Rattle.block_outcomes.specs.declared.outcome.Compiled.{Compiled}
use Rattle.block_outcomes.specs.declared.outcome.Compiled.TheVariants.{Made, Refused}
use Rattle.block_outcomes.specs.declared.outcome.Outcome.{Outcome}
use Rattle.block_outcomes.specs.declared.outcome.Outcome.TheVariants.{Done, Faulty}
use Rattle.block_outcomes.specs.declared.outcome.Table.{Table}

-- messages, or others where there are none
abbrev pub first_told : List Message → List Message → List Message
first_told [] others = others
first_told (m ∷ ms) others = m ∷ ms

-- the numbers of the errors of the class of names
abbrev pub is_of_names : ℕ → Bool
is_of_names number = nat_le 6040 number && nat_le number 6046

-- the classes of errors, each told where there is none of those before: what is wrong with names; with kinds,
-- statements and fields; Switches for which too few Locals are free, and Fors of which too many copies are made; tables
-- that are too long
abbrev pub class_of : ℕ → Class
class_of number =
    if is_of_names number then class.Names else
    (if nat_eq number 6061 || nat_eq number 6062 then class.Lowering else (if nat_eq number 6080 then class.Sizes else class.Kinds))

abbrev pub is_class : Class → Class → Bool
is_class class.Names class.Names = true
is_class class.Kinds class.Kinds = true
is_class class.Lowering class.Lowering = true
is_class class.Sizes class.Sizes = true
is_class _ _ = false

-- the errors of a block are of one class, that of the first
abbrev pub class_in : List Message → Option Class
class_in [] = None
class_in (m ∷ ms) = Some (class_of m.number)

abbrev pub is_class_in : Class → Option Class → Bool
is_class_in c None = false
is_class_in c (Some d) = is_class c d

-- errors of a block, if they are of this class
abbrev pub if_class : Class → List Message → List Message
if_class c messages = if is_class_in c (class_in messages) then messages else []

-- the errors of this class that some blocks have
abbrev pub of_class : Class → List Outcome → List Message
of_class c [] = []
of_class c (Done signature own pieces ∷ outcomes) = of_class c outcomes
of_class c (Faulty messages ∷ outcomes) = if_class c messages ++ of_class c outcomes

-- the tables of those that have none
abbrev pub tables_among : List Outcome → List Table
tables_among [] = []
tables_among (Done signature own pieces ∷ outcomes) = record { signature = signature; own = own; pieces = pieces } ∷ tables_among outcomes
tables_among (Faulty messages ∷ outcomes) = tables_among outcomes

-- errors, where there are any
abbrev pub unless_refused : List Message → Compiled → Compiled
unless_refused [] it = it
unless_refused (m ∷ ms) it = Refused (m ∷ ms)

-- errors with notes behind them, where there are any
abbrev pub unless_noted : List Message → List Message → Compiled → Compiled
unless_noted [] notes it = it
unless_noted (m ∷ ms) notes it = Refused ((m ∷ ms) ++ notes)

-- the errors of the first class behind that of names that some block has
abbrev pub later_errors : List Outcome → List Message
later_errors outcomes = first_told (of_class class.Kinds outcomes)
    (first_told (of_class class.Lowering outcomes) (of_class class.Sizes outcomes))

-- what blocks come to together: the errors of the first class that any of them has, of all of them, with their notes
-- where that is not the class of names; or their tables, with their notes
abbrev pub joined : List Message → List Outcome → Compiled
joined notes outcomes = unless_refused (of_class class.Names outcomes)
    (unless_noted (later_errors outcomes) notes (Made (tables_among outcomes) notes))
