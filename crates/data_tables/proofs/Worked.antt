-- A structure of the SRAT worked out by computation: a processor with the proximity domain 0x20103.
use Rattle.std.proofs.Common.{◌≡◌, ℕ, List, [], ◌∷◌, get_or, Some, None, refl}
use Rattle.data_layout.specs.declared.rows.TheConstants.{PROCESSOR_AFFINITY}
use Rattle.data_layout.specs.Layout.{locality_row}
use Rattle.data_tables.specs.Entry.{Number, Bytes}
use Rattle.data_tables.specs.Reading.{field_said, number_read, size_of}

processor : List ℕ
processor = 0x00 ∷ 0x10 ∷ 0x03 ∷ 0x05 ∷ 0x01 ∷ 0x00 ∷ 0x00 ∷ 0x00 ∷ 0x00 ∷ 0x01 ∷ 0x02 ∷ 0x00 ∷ 0x00 ∷ 0x00 ∷ 0x00 ∷ 0x00 ∷ []

-- its length, which says nothing of its own, the low byte of the domain, and the three high ones
stated : number_read processor 1 1 ≡ 16
unfolding processor
stated = refl

unsaid : field_said processor 1 (get_or PROCESSOR_AFFINITY.now 0 (locality_row 0 0)) ≡ None
unsaid = refl

low : field_said processor 2 (get_or PROCESSOR_AFFINITY.now 1 (locality_row 0 0)) ≡ Some (Number 3)
unfolding processor
low = refl

high : field_said processor 9 (get_or PROCESSOR_AFFINITY.now 5 (locality_row 0 0)) ≡ Some (Number 0x201)
unfolding processor
high = refl

size : size_of PROCESSOR_AFFINITY.now ≡ 15
size = refl

-- the row of a locality
row : field_said (0x0A ∷ 0x14 ∷ 0x14 ∷ 0x0A ∷ []) 2 (locality_row 2 1) ≡ Some (Bytes (0x14 ∷ 0x0A ∷ []))
row = refl
