-- The fault of the units of a list depends on the kind of a space alone.
use Rattle.std.proofs.Common.{◌≡◌, ℕ, ◌++◌, Bool, true, false, List, Option, Some, None, append_assoc, refl, sym, ap, ◌∙◌}
use Rattle.std.specs.Prelude.{nat_eq, ◌&&◌, ◌||◌, if◌then◌else◌, ◌%◌}
use Rattle.std.proofs.lemmas.Bool.{eqb-true}
use Rattle.std.proofs.Math.Path.{fun_ext}
use Rattle.acpi_state.specs.Outcomes.{choose}
use Rattle.acpi_state.specs.Objects.{Object}
use Rattle.acpi_state.specs.Access.{is_buffer_space}
use Rattle.acpi_values.specs.Paths.{AbsolutePath}
use Rattle.iasl_messages.specs.declared.message.Message.{Message}
use Rattle.iasl_messages.specs.declared.place.Place.{Place}
use Rattle.term_plans.specs.Plans.{Plan, Plans, no_plans, plan}
use Rattle.field_layout.specs.declared.segments.SerialItem.{SerialItem}
use Rattle.field_layout.specs.declared.segments.SerialItem.TheVariants as Item
use Rattle.field_layout.specs.declared.segments.Said.{Said}
use Rattle.field_layout.specs.Segments.{first_said, said_behind, item_fault, needs_connection, is_absent}
use Rattle.field_checks.specs.declared.units.UnitFault.{UnitFault}
use Rattle.field_checks.specs.Units.{serial_item, unit_fault, unit_told}
use Rattle.region_checks.specs.declared.measure.UnitFaults.{UnitFaults}
use Rattle.region_checks.specs.Measures.{faults_from, unit_faults, fault_in}
use Rattle.region_checks.specs.Regions.{size_at, access_errors, unit_errors, field_told}
use Rattle.region_checks.specs.Sites.{body_of, field_units}

fault_kind : Bool → Bool → Said → Option ℕ
fault_kind buffers connected said =
    if buffers then (if nat_eq said.access 5 then (if connected && is_absent said.connection then Some 6075 else None) else Some 6073)
    else (if nat_eq said.access 5 then Some 6074 else (if connected && is_absent said.connection then Some 6075 else None))

same_item : (a b : ℕ) (said : Said) (item : SerialItem) → is_buffer_space a ≡ is_buffer_space b → needs_connection a ≡ needs_connection b → item_fault a said item ≡ item_fault b said item
unfolding fault_kind
same_item a b said (Item.Unit name bits) e f = ap (λ x. fault_kind x (needs_connection a) said) e ∙ ap (λ x. fault_kind (is_buffer_space b) x said) f
same_item a b said (Item.Skip bits) e f = refl
same_item a b said (Item.Offset bytes) e f = refl
same_item a b said (Item.AccessAs access attribute count) e f = refl
same_item a b said (Item.Connection element) e f = refl

same_fault : (a b : ℕ) → is_buffer_space a ≡ is_buffer_space b → needs_connection a ≡ needs_connection b → (said : Said) (ps : Plans) → unit_fault a said ps ≡ unit_fault b said ps
same_fault a b e f said no_plans = refl
same_fault a b e f said (plan place p ps) =
    ap (λ o. choose o (unit_fault a (said_behind said (serial_item p)) ps) (λ number. Some (record { place = place; number = number }))) (same_item a b said (serial_item p) e f)
    ∙ ap (λ r. choose (item_fault b said (serial_item p)) r (λ number. Some (record { place = place; number = number }))) (same_fault a b e f (said_behind said (serial_item p)) ps)

kind_fault : (space : ℕ) (said : Said) (ps : Plans) → fault_in space (faults_from said ps) ≡ unit_fault space said ps
kind_fault space said ps = by (nat_eq space 9) (nat_eq space 8) (is_buffer_space space) refl refl refl
  where
    connected : nat_eq space 9 ≡ false → nat_eq space 8 ≡ false → needs_connection space ≡ false
    connected e f = ap (λ b. b || nat_eq space 9) f ∙ e

    by : (nine eight buffers : Bool) → nat_eq space 9 ≡ nine → nat_eq space 8 ≡ eight → is_buffer_space space ≡ buffers
        → (if nine then unit_fault 9 said ps else (if eight then unit_fault 8 said ps else (if buffers then unit_fault 4 said ps else unit_fault 0 said ps))) ≡ unit_fault space said ps
    by true eight buffers e f g = ap (λ n. unit_fault n said ps) (sym (eqb-true space 9 e))
    by false true buffers e f g = ap (λ n. unit_fault n said ps) (sym (eqb-true space 8 f))
    by false false true e f g = same_fault 4 space (sym g) (sym (connected e f)) said ps
    by false false false e f g = same_fault 0 space (sym g) (sym (connected e f)) said ps

pub same_units : (flags : ℕ) (p : Plan) → (λ space. fault_in space (unit_faults flags (body_of p))) ≡ field_units flags p
same_units flags p = fun_ext (λ space. kind_fault space (first_said (flags % 16)) (body_of p))

-- what is told of one field, in two parts
pub told_field : (regions : List (AbsolutePath × ℕ)) (place : Place) (access size : Option ℕ) (faults : UnitFaults) (fault : Option UnitFault) (here end : Option (AbsolutePath × Object)) (old mid new : List Message)
    → mid ≡ old ++ access_errors place access size → new ≡ mid ++ unit_told fault → size ≡ size_at regions here → unit_told fault ≡ unit_errors (λ space. fault_in space faults) here → here ≡ end
    → new ≡ old ++ field_told regions place access (λ space. fault_in space faults) end
told_field regions place access size faults fault here end old mid new first second sized same at =
    second ∙ ap (λ ms. mid ++ ms) same ∙ ap (λ ms. ms ++ unit_errors (λ space. fault_in space faults) here) (first ∙ ap (λ s. old ++ access_errors place access s) sized)
    ∙ append_assoc old (access_errors place access (size_at regions here)) (unit_errors (λ space. fault_in space faults) here)
    ∙ ap (λ e. old ++ field_told regions place access (λ space. fault_in space faults) e) at
