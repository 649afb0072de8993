-- How deep Switches nest in terms, and whether a Continue leaves one of them.
use Rattle.std.specs.Prelude.{ℕ, min, max, ◌+◌, nat_le, nat_lt, Bool, true, false, ◌||◌, if◌then◌else◌}
use Rattle.asl_tree.specs.Tree.{Tree, Trees}
use Rattle.hidden_locals.specs.Crossing.{has_continue, have_continue}
use Rattle.hidden_locals.specs.Switches.{depth, depth_all, is_crossed, are_crossed}
use Rattle.switch_loops.specs.declared.kind.TermRole.{TermRole}
use Rattle.switch_loops.specs.declared.measure.Measure.{Measure}

-- nine levels stand for all that are more, since there are eight Locals
abbrev pub capped : ℕ → ℕ
capped n = min n 9

abbrev pub measured : Trees → Measure
measured terms = record { levels = capped (depth_all terms); crossed = are_crossed terms; continues = have_continue terms }

abbrev pub measured_one : Tree → Measure
measured_one term = record { levels = capped (depth term); crossed = is_crossed term; continues = has_continue term }

abbrev pub nothing : Measure
nothing = record { levels = 0; crossed = false; continues = false }

-- one term beside others
abbrev pub both : Measure → Measure → Measure
both m n = record { levels = max m.levels n.levels; crossed = m.crossed || n.crossed; continues = m.continues || n.continues }

-- a term by what stands in its braces
abbrev pub around : TermRole → Measure → Measure
around TermRole.Block m = m
around TermRole.Loop m = record { levels = m.levels; crossed = m.crossed; continues = false }
around TermRole.Switch m = record { levels = min m.levels 8 + 1; crossed = m.continues || m.crossed; continues = m.continues }
around TermRole.Case m = m
around TermRole.Default m = m
around TermRole.Method m = nothing
around TermRole.Continue m = record { levels = 0; crossed = false; continues = true }
around TermRole.Other m = nothing

-- whether so many Locals are enough for what is measured: one for each level, and one more where a Continue leaves a Switch
abbrev pub suffices : Measure → ℕ → Bool
suffices m left = if m.crossed then nat_lt m.levels left else nat_le m.levels left
