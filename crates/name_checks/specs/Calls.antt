-- The calls of an External.
use Rattle.std.specs.Prelude.{ℕ, Bool, true, false, not, nat_eq, ◌&&◌, ◌||◌, Option, Some, None, is_some}
use Rattle.asl_meaning.specs.Declarations.{ExternalType}

-- whether an External does not say how many arguments a call of it has
abbrev pub is_open : Option ExternalType → Bool
is_open None = false
is_open (Some e) = not (is_some e.parameters) && (nat_eq e.type 0 || nat_eq e.type 8)

-- whether a call has as many arguments as the first one
abbrev pub is_first : ℕ → Option ℕ → Bool
is_first n None = true
is_first n (Some m) = nat_eq m n
