-- The rows are as they are written.
use Rattle.std.proofs.Common.{◌≡◌, refl, arith}
use Rattle.hidden_locals.specs.Switches.{without_switches, IsUnswitchable}
use Rattle.hidden_locals.specs.Rows.{lone, lone_loop, crossed, crossed_loop, twice, twice_loop}

pub rows : (without_switches lone ≡ lone_loop) × (without_switches crossed ≡ crossed_loop) × (without_switches twice ≡ twice_loop)
rows = (refl, refl, refl)

pub unswitchable : IsUnswitchable lone × IsUnswitchable crossed × IsUnswitchable twice
unswitchable = ((omega arith, ((tt, ((tt, tt, tt), (tt, (tt, tt, tt), ((tt, (tt, tt)), (tt, tt, tt), tt)))), tt, tt)), (omega arith, (((refl, (tt, tt)), ((refl, (tt, (tt, tt, tt), tt)), tt, ((refl, refl), tt, tt))), tt, (refl, tt, tt))), (omega arith, ((tt, ((tt, (((refl, ((tt, tt, tt), tt)), tt, (tt, tt, tt)), tt)), tt, tt)), tt, tt)))
