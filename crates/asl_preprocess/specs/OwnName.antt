-- `__IASL__`, the name that is defined before the first line.
use Rattle.std.specs.Prelude.{◌≡◌, ℕ, false, List, codes, None}
use Rattle.std.specs.Str.{bytes_eq}
use Rattle.memchr.specs.Find.{OccursAt}
use Rattle.asl_macros.specs.History.{History, text_in}

abbrev pub own_name : List ℕ
own_name = codes "__IASL__"

-- a text in which it does not stand
pub record LacksOwnName (text : List ℕ) : Type 0 where
  pub nowhere : (k : ℕ) → ¬ OccursAt text own_name k

-- no other name has a text
pub record IsAlone (history : History) : Type 0 where
  pub others : (name : List ℕ) → bytes_eq own_name name ≡ false → text_in history name ≡ None
