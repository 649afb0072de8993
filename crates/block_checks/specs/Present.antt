-- What is found of the forms that stand in terms.
use Rattle.std.specs.Prelude.{◌≡◌, ◌-◌, ◌^◌, min}
use Rattle.term_plans.specs.Plans.{Plans}
use Rattle.asl_numbers.specs.Numbers.{nodes as node_count}
use Rattle.form_presence.specs.declared.present.Presence.{Presence}
use Rattle.form_presence.specs.Present.{have_op, is_switch, is_field, is_list, is_form}

-- these forms stand in terms, which have so many nodes
pub record IsPresenceOf (ps : Plans) (present : Presence) : Type 0 where
  pub switches : present.switches ≡ have_op is_switch ps
  pub fields : present.fields ≡ have_op is_field ps
  pub lists : present.lists ≡ have_op is_list ps
  pub forms : present.forms ≡ have_op is_form ps
  pub nodes : present.nodes ≡ min (node_count ps) (2 ^ 64 - 1)
