-- A reading that goes on from one token.
use Rattle.std.specs.Prelude.{◌≡◌, ℕ, ◌+◌, ◌<◌, ◌≤◌, List, length, drop, Result, Ok, Err}
use Rattle.asl_syntax.specs.declared.mark.Mark.{Mark}
use Rattle.asl_parser.specs.declared.state.Refusal.{Refusal}
use Rattle.asl_parser.specs.declared.state.Refusal.TheVariants as r
use Rattle.asl_parser.specs.declared.reader.Syntax.{Syntax}
use Rattle.asl_parser.specs.declared.reader.Syntax.TheVariants as y
use Rattle.asl_syntax.specs.Grow.{limit}
use Rattle.asl_syntax.specs.Frames.{depth}
use Rattle.asl_parser.specs.Machine.{Config, walk, within}
use Rattle.asl_parser.specs.Parse.{EndsIn}

-- The reading came over the tokens between these places, and no more is open than may be.
abbrev pub Advances : List Mark → ℕ → ℕ → Config → Config → Type 0
Advances all at next before now = (at < next) × (next ≤ length all) × (depth now.1 ≤ limit)
    × (walk (within limit) (drop at all) before.0 before.1 ≡ walk (within limit) (drop next all) now.0 now.1)

-- The same, where there may be no token between the places.
abbrev pub Passes : List Mark → ℕ → ℕ → Config → Config → Type 0
Passes all at next before now = (at ≤ next) × (next ≤ length all) × (depth now.1 ≤ limit)
    × (walk (within limit) (drop at all) before.0 before.1 ≡ walk (within limit) (drop next all) now.0 now.1)

-- A walk from this place on ends so, unless memory runs out.
abbrev pub FailsAt : Syntax → List Mark → ℕ → Config → Type 0
FailsAt fault all at before = EndsIn (Err fault) all (walk (within limit) (drop at all) before.0 before.1)

-- The reading comes from the one place to the other, at which there is a token.
abbrev pub Comes : List Mark → ℕ → ℕ → Config → Config → Type 0
Comes all at last before mid = (at ≤ last) × (last < length all) × (depth mid.1 ≤ limit)
    × (walk (within limit) (drop at all) before.0 before.1 ≡ walk (within limit) (drop last all) mid.0 mid.1)

-- What a step at this place comes to, behind which so much is open: the place behind it, or why the reading ends.
abbrev pub ComesTo : Result (Unit {0}) Refusal → ℕ → ℕ → Result ℕ Syntax → Type 0
ComesTo (Ok u) open_now at (Ok next) = (next ≡ at + 1) × (open_now ≤ limit)
ComesTo (Ok u) open_now at (Err (y.TooDeep k)) = (k ≡ at) × (limit < open_now)
ComesTo (Err r.Refused) open_now at (Err (y.Stop k)) = k ≡ at
ComesTo (Err r.Memory) open_now at (Err y.Memory) = Unit {0}
ComesTo _ open_now at _ = ⊥
