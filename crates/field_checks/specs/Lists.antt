-- The errors of the lists of fields: an Offset that goes back, a number of bits that cannot be written, and a unit of an IndexField that is
-- accessed as a Buffer.
use Rattle.std.specs.Prelude.{ℕ, List, [], ◌∷◌, ◌++◌, Option, Some, None}
use Rattle.acpi_state.specs.Outcomes.{choose}
use Rattle.iasl_messages.specs.declared.message.Message.{Message}
use Rattle.asl_tree.specs.FieldItems.{FieldItem, UnitItem, SkipItem, OffsetItem, behind_item}
use Rattle.asl_tree.specs.declared.term.Op.{Op}
use Rattle.asl_tree.specs.declared.term.Declaration.{Declaration}
use Rattle.term_plans.specs.Plans.{Plan, a_unit, a_skip, an_offset, an_access, a_name, a_fill, a_form, Plans, no_plans, plan}
use Rattle.term_plans.specs.Places.{fault_at}
use Rattle.field_layout.specs.Layout.{item_fault}
use Rattle.field_checks.specs.Units.{unit_told, index_fault}

-- the item of a list that a term is; the name of a unit is of no account here, and an item without bits counts as a gap of none
abbrev pub item_in : Plan → Option (FieldItem ℕ)
item_in (a_unit segment bits) = Some (UnitItem 0 bits)
item_in (a_skip bits) = Some (SkipItem bits)
item_in (an_offset bytes) = Some (OffsetItem bytes)
item_in (an_access access attribute count) = Some (SkipItem 0)
item_in (a_name name) = Some (SkipItem 0)
item_in (a_fill bytes named) = Some (SkipItem 0)
item_in _ = None

-- the first fault of a list whose next bit is `at`, at its item; what is no item ends the list
abbrev pub list_errors : ℕ → Plans → List Message
list_errors at no_plans = []
list_errors at (plan place p ps) =
    choose (item_in p) []
    (λ item. choose (item_fault at item) (list_errors (behind_item at item) ps) (λ number. fault_at number place ∷ []))

-- a field has a list, and an IndexField has units that are asked here
abbrev pub field_errors : Op → Plans → Plans → List Message
field_errors (Op.Declaration Declaration.Field) args body = list_errors 0 body
field_errors (Op.Declaration Declaration.IndexField) args body = list_errors 0 body ++ unit_told (index_fault args body)
field_errors (Op.Declaration Declaration.BankField) args body = list_errors 0 body
field_errors _ args body = []

abbrev mutual
  -- the errors of a term, and then those of its body
  pub term_errors : Plan → List Message
  term_errors (a_form op args body) = field_errors op args body ++ all_errors body
  term_errors _ = []

  pub all_errors : Plans → List Message
  all_errors no_plans = []
  all_errors (plan place p ps) = term_errors p ++ all_errors ps
