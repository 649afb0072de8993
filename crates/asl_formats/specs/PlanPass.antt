-- The plans of what stands for a For, and of a whole program with it and with what stands for what prints.
use Rattle.std.specs.Prelude.{List, reverse}
use Rattle.iasl_messages.specs.declared.place.Place.{Place}
use Rattle.asl_tree.specs.declared.term.Node.{Node}
use Rattle.term_plans.specs.Plans.{Plans, no_plans, plan, join, plans_of}
use Rattle.asl_prints.specs.Plans.{optional, while_plan, spread}

-- what stands for a For with these arguments and this body
abbrev pub for_plans : Place → Plans → Plans → Plans
for_plans here (plan a start (plan b test (plan c step no_plans))) body =
    join (optional a start) (plan here (while_plan b test (optional c step) body) no_plans)
for_plans here args body = no_plans

-- terms one after another, each with what stands for it
abbrev pub spread_all : Plans → Plans
spread_all no_plans = no_plans
spread_all (plan place p ps) = spread place p (spread_all ps)

-- the plans of nodes that stand backwards
abbrev pub backward_plans : List Node → Plans
backward_plans nodes = plans_of (reverse nodes)
