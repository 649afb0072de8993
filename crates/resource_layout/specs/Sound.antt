-- What a table of layouts has to keep: the fields of a descriptor lie in it, and apart from each other.
use Rattle.std.specs.Prelude.{ℕ, ◌+◌, ◌*◌, ◌/◌, ◌==◌, ◌&&◌, ◌||◌, nat_le, Bool, true, List, [], ◌∷◌, ◌++◌, map}
use Rattle.std.specs.List.{list_all}
use Rattle.resource_layout.specs.declared.descriptor.Giver.{Giver}
use Rattle.resource_layout.specs.declared.descriptor.Giver.TheVariants as g
use Rattle.resource_layout.specs.declared.descriptor.Head.{Head}
use Rattle.resource_layout.specs.declared.descriptor.Head.TheVariants as h
use Rattle.resource_layout.specs.declared.descriptor.Body.{Body}
use Rattle.resource_layout.specs.declared.descriptor.Body.TheVariants as b
use Rattle.resource_layout.specs.declared.descriptor.Row.{Row}
use Rattle.resource_layout.specs.declared.descriptor.Field.{Field}
use Rattle.resource_layout.specs.Layout.{fields_of}

-- so many bits from a bit on
pub record Window : Type 0 where
  pub at : ℕ
  pub bits : ℕ

abbrev pub window : ℕ → ℕ → Window
window at bits = record { at = at; bits = bits }

-- a field that stands behind the fields has no bits among them
abbrev pub bits_by : Giver → ℕ → ℕ
bits_by g.FirstMember bits = 0
bits_by _ bits = bits

abbrev pub window_of : Field → Window
window_of field = window field.at (bits_by field.giver field.bits)

abbrev pub head_windows : Head → List Window
head_windows (h.Small name) = window 0 3 ∷ window 3 5 ∷ []
head_windows (h.Large tag) = window 0 8 ∷ window 8 16 ∷ []

abbrev pub windows_of : Row → List Window
windows_of row = head_windows row.head ++ map window_of (fields_of row.descriptor)

abbrev pub is_apart : Window → Window → Bool
is_apart a b = nat_le (a.at + a.bits) b.at || nat_le (b.at + b.bits) a.at

abbrev pub are_apart : List Window → Bool
are_apart [] = true
are_apart (w ∷ ws) = list_all (is_apart w) ws && are_apart ws

abbrev pub is_within : ℕ → Window → Bool
is_within bits w = nat_le (w.at + w.bits) bits

-- the numbers of a list have whole bytes
abbrev pub has_whole_bytes : Body → Bool
has_whole_bytes (b.Numbers bits least most) = bits == 8 * (bits / 8)
has_whole_bytes _ = true

abbrev pub is_sound : Row → Bool
is_sound row = are_apart (windows_of row) && (list_all (is_within (8 * row.bytes)) (windows_of row) && has_whole_bytes row.body)
