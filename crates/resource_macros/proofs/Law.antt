-- The bytes of descriptors read as they are to be.
use Rattle.std.proofs.Common.{◌≡◌, ◌<◌, ℕ, ◌+◌, ◌*◌, ◌/◌, ◌^◌, ◌&&◌, nat_lt, nat_le, Bool, true, false, cond, List, [], ◌∷◌, ◌++◌, length, take, drop, map, Result, Ok, Err, refl, sym, ap, subst, ◌∙◌, arith, append_assoc, length-append}
use Rattle.std.proofs.Math.Seq.{drop-append_seam, take-append_seam}
use Rattle.std.proofs.Math.Nat.{mod-eq_of_lt, one-le-pow}
use Rattle.std.specs.List.{list_all}
use Rattle.iasl_messages.specs.declared.message.Message.{Message}
use Rattle.resource_layout.specs.declared.descriptor.Descriptor.{Descriptor}
use Rattle.resource_layout.specs.declared.descriptor.Head.{Head}
use Rattle.resource_layout.specs.declared.descriptor.Head.TheVariants as h
use Rattle.resource_layout.specs.declared.descriptor.Body.{Body}
use Rattle.resource_layout.specs.declared.descriptor.Body.TheVariants as b
use Rattle.resource_layout.specs.declared.descriptor.Row.{Row}
use Rattle.resource_layout.specs.declared.descriptor.Field.{Field}
use Rattle.resource_layout.specs.Layout.{row_of, fields_of}
use Rattle.resource_layout.specs.Sound.{Window, window_of, is_apart, head_windows, windows_of, are_apart, is_within, has_whole_bytes, is_sound}
use Rattle.resource_layout.proofs.Sound.{row_sound}
use Rattle.iasl_messages.specs.declared.place.Place.{Place}
use Rattle.resource_macros.specs.declared.node.Node.{Node}
use Rattle.resource_macros.specs.declared.node.Term.{Term}
use Rattle.resource_macros.specs.declared.node.Term as D
use Rattle.resource_macros.specs.declared.bits.Due.{Due}
use Rattle.resource_macros.specs.Numbers.{little_bytes, little_number}
use Rattle.resource_macros.specs.Arguments.{fitted, or_zero, member_of, members_of}
use Rattle.resource_macros.specs.Packing.{place_of, packed}
use Rattle.resource_macros.specs.Resources.{Listed, listed_in, are_few, is_fitting, head_dues, field_dues, dues_in, length_in, bytes_in, behind_in, members_in, source_in, width_behind, numbers_behind, numbers_bytes, has_room, least_of}
use Rattle.resource_macros.specs.Reading.{IsHead, AreRead, AreClear, numbers_read, IsResource}
use Rattle.resource_macros.specs.Templates.{Resource, own_fault, argument_faults, list_faults, faults_of, all_faults, bytes_of, all_bytes, length_of, Describes}
use Rattle.resource_macros.proofs.Bytes.{little_length, little_back}
use Rattle.resource_macros.proofs.Lengths.{behind_length, numbers_length}
use Rattle.resource_macros.proofs.Packing.{AreFitting, AreDuesRead, AreDuesClear, read_back, clear_back}

both : (a b : Bool) → (a && b) ≡ true → (a ≡ true) × (b ≡ true)
both true b e = (refl, e)
both false b e = absurd cc

-- the dues stand where the layout says
field_places : (args : List Node) (members : Listed) (fields : List Field) → map place_of (field_dues args members fields) ≡ map window_of fields
field_places args members [] = refl
field_places args members (field ∷ fields) = ap (λ ws. window_of field ∷ ws) (field_places args members fields)

head_places : (head : Head) (bytes : ℕ) (more : List Due) → map place_of (head_dues head bytes ++ more) ≡ head_windows head ++ map place_of more
head_places (h.Small name) bytes more = refl
head_places (h.Large tag) bytes more = refl

places : (row : Row) (args body : List Node) → map place_of (dues_in row args body) ≡ windows_of row
places row args body = head_places row.head (length_in row args body) (field_dues args (listed_in row args body) (fields_of row.descriptor)) ∙ ap (λ ws. head_windows row.head ++ ws) (field_places args (listed_in row args body) (fields_of row.descriptor))

-- what is read of the dues is read of the head and of the fields
head_read : (head : Head) (size : ℕ) (bytes : List ℕ) (more : List Due) → AreDuesRead bytes (head_dues head size ++ more) → IsHead head size bytes × AreDuesRead bytes more
head_read (h.Small name) size bytes more read = ((read.1.0, read.0), read.1.1)
head_read (h.Large tag) size bytes more read = ((read.0, read.1.0), read.1.1)

fields_read : (bytes : List ℕ) (args : List Node) (members : Listed) (fields : List Field) → AreDuesRead bytes (field_dues args members fields) → AreRead bytes args members fields
fields_read bytes args members [] read = tt
fields_read bytes args members (field ∷ fields) read = (read.0, fields_read bytes args members fields read.1)

-- what is apart from the dues is apart from their places
apart_from : (free : Window) (dues : List Due) → list_all (λ due. is_apart (place_of due) free) dues ≡ list_all (λ w. is_apart w free) (map place_of dues)
apart_from free [] = refl
apart_from free (due ∷ dues) = ap (λ t. is_apart (place_of due) free && t) (apart_from free dues)

clear_from : (bits : ℕ) (bytes : List ℕ) (dues : List Due) → AreDuesClear bits bytes dues → AreClear bits bytes (map place_of dues)
clear_from bits bytes dues clear free apart within = clear free (apart_from free dues ∙ apart) within

fitting : (dues : List Due) → list_all is_fitting dues ≡ true → AreFitting dues
fitting [] e = tt
fitting (due ∷ dues) e =
    let a = both (is_fitting due) (list_all is_fitting dues) e in
    let one : nat_lt due.number (2 ^ due.bits) ≡ true = a.0 in
    (grind arith, fitting dues a.1)

-- what is kept of the front and of what stands behind it
front : (w n : ℕ) (more : List ℕ) → take w (little_bytes w n ++ more) ≡ little_bytes w n
front w n more = ap (λ k. take k (little_bytes w n ++ more)) (sym (little_length w n)) ∙ take-append_seam (little_bytes w n) more

behind : (w n : ℕ) (more : List ℕ) → drop w (little_bytes w n ++ more) ≡ more
behind w n more = ap (λ k. drop k (little_bytes w n ++ more)) (sym (little_length w n)) ∙ drop-append_seam (little_bytes w n) more

-- numbers of whole bytes are read back
AreBelow : ℕ → List ℕ → Type 0
AreBelow bits [] = Unit {0}
AreBelow bits (n ∷ ns) = (n < 2 ^ bits) × AreBelow bits ns

numbers_back : (w : ℕ) (numbers more : List ℕ) → AreBelow (8 * w) numbers → numbers_read w (length numbers) (numbers_bytes w numbers ++ more) ≡ numbers
unfolding AreBelow
numbers_back w [] more fit = refl
numbers_back w (n ∷ numbers) more fit =
    let e : (little_bytes w n ++ numbers_bytes w numbers) ++ more ≡ little_bytes w n ++ (numbers_bytes w numbers ++ more) = append_assoc (little_bytes w n) (numbers_bytes w numbers) more in
    ap (λ bs. little_number (take w bs) ∷ numbers_read w (length numbers) (drop w bs)) e
    ∙ ap (λ bs. little_number bs ∷ numbers_read w (length numbers) (drop w (little_bytes w n ++ (numbers_bytes w numbers ++ more)))) (front w n (numbers_bytes w numbers ++ more))
    ∙ ap (λ k. k ∷ numbers_read w (length numbers) (drop w (little_bytes w n ++ (numbers_bytes w numbers ++ more)))) (little_back w n ∙ mod-eq_of_lt fit.0)
    ∙ ap (λ bs. n ∷ numbers_read w (length numbers) bs) (behind w n (numbers_bytes w numbers ++ more))
    ∙ ap (λ ns. n ∷ ns) (numbers_back w numbers more fit.1)

source_back : (w : ℕ) (numbers more : List ℕ) → drop (w * length numbers) (numbers_bytes w numbers ++ more) ≡ more
source_back w numbers more = ap (λ k. drop k (numbers_bytes w numbers ++ more)) (sym (numbers_length w numbers)) ∙ drop-append_seam (numbers_bytes w numbers) more

fitted_below : (bits n : ℕ) → or_zero (fitted bits n) < 2 ^ bits
fitted_below bits n =
    elim (nat_lt n (2 ^ bits)) as (λ t. nat_lt n (2 ^ bits) ≡ t → or_zero (cond {A = Result ℕ ℕ} t (Ok n) (Err 6024)) < 2 ^ bits) [
      | true ↦ λ e. grind arith
      | false ↦ λ e. one-le-pow bits 2 (omega arith)
    ] refl

member_below : (bits least most : ℕ) (term : Term) → or_zero (member_of (b.Numbers bits least most) term) < 2 ^ bits
member_below bits least most (D.Integer n) = fitted_below bits n
member_below bits least most _ = one-le-pow bits 2 (omega arith)

members_below : (bits least most : ℕ) (nodes : List Node) → AreBelow bits (members_of (b.Numbers bits least most) nodes)
unfolding AreBelow
members_below bits least most [] = tt
members_below bits least most (node ∷ nodes) = (member_below bits least most node.term, members_below bits least most nodes)

behind_below : (body : Body) (nodes : List Node) → has_whole_bytes body ≡ true → AreBelow (8 * width_behind body) (numbers_behind body (members_of body nodes))
unfolding AreBelow
behind_below b.Nothing nodes e = tt
behind_below (b.Bits bits) nodes e = tt
behind_below (b.Numbers bits least most) nodes e =
    let same : bits ≡ 8 * (bits / 8) = grind arith in
    let P : ℕ → Type 0 = λ k. AreBelow k (members_of (b.Numbers bits least most) nodes) in
    subst P same (members_below bits least most nodes)
behind_below b.Descriptors nodes e = tt

-- a descriptor that has room reads as it is to be
resource_reads : (row : Row) (args body : List Node) → is_sound row ≡ true → has_room row args body ≡ true → IsResource row args body (bytes_in row args body)
resource_reads row args body sound room =
    let dues = dues_in row args body in
    let tail = numbers_bytes (width_behind row.body) (behind_in row body) ++ source_in row args in
    let s = both (are_apart (windows_of row)) (list_all (is_within (8 * row.bytes)) (windows_of row) && has_whole_bytes row.body) sound in
    let u = both (list_all (is_within (8 * row.bytes)) (windows_of row)) (has_whole_bytes row.body) s.1 in
    let fit = fitting dues (both (nat_le (least_of row.body) (length body) && are_few row.body (length body)) (list_all is_fitting dues) room).1 in
    let apart : are_apart (map place_of dues) ≡ true = ap are_apart (places row args body) ∙ s.0 in
    let within : list_all (is_within (8 * row.bytes)) (map place_of dues) ≡ true = ap (list_all (is_within (8 * row.bytes))) (places row args body) ∙ u.0 in
    let here = front row.bytes (packed dues) tail in
    let rest = behind row.bytes (packed dues) tail in
    let size = length-append (little_bytes row.bytes (packed dues)) tail ∙ ap (λ k. k + length tail) (little_length row.bytes (packed dues)) ∙ ap (λ k. row.bytes + k) (behind_length (width_behind row.body) (behind_in row body) (source_in row args)) in
    let fields = field_dues args (listed_in row args body) (fields_of row.descriptor) in
    let read = subst (λ (bs : List ℕ). AreDuesRead bs dues) (sym here) (read_back row.bytes dues apart within fit) in
    let clear = subst (λ (bs : List ℕ). AreDuesClear (8 * row.bytes) bs dues) (sym here) (clear_back row.bytes dues apart fit) in
    let front_bytes = take row.bytes (bytes_in row args body) in
    let two = head_read row.head (length_in row args body) front_bytes fields read in
    record {
      whole = size;
      head = subst (λ (k : ℕ). IsHead row.head k front_bytes) (sym size) two.0;
      fields = fields_read front_bytes args (listed_in row args body) (fields_of row.descriptor) two.1;
      clear = subst (AreClear (8 * row.bytes) front_bytes) (places row args body) (clear_from (8 * row.bytes) front_bytes dues clear);
      numbers = ap (numbers_read (width_behind row.body) (length (behind_in row body))) rest ∙ numbers_back (width_behind row.body) (behind_in row body) (source_in row args) (behind_below row.body body u.1);
      source = ap (drop (width_behind row.body * length (behind_in row body))) rest ∙ source_back (width_behind row.body) (behind_in row body) (source_in row args);
    }

-- the same of bytes and of an answer that are those of a descriptor
pub reads_where_room : (d : Descriptor) (args body : List Node) (bytes : List ℕ) (room : Bool) → bytes ≡ bytes_in (row_of d) args body → room ≡ has_room (row_of d) args body → room ≡ true → IsResource (row_of d) args body bytes
reads_where_room d args body bytes room b r e = subst (IsResource (row_of d) args body) (sym b) (resource_reads (row_of d) args body (row_sound d) (sym r ∙ e))

none_first : (xs ys : List Message) → xs ++ ys ≡ [] → (xs ≡ []) × (ys ≡ [])
none_first [] ys e = (refl, e)
none_first (x ∷ xs) ys e = absurd cc

room_of : (room : Bool) (place : Place) → own_fault room place ≡ [] → room ≡ true
room_of true place e = refl
room_of false place e = absurd cc

-- a faultless descriptor reads as it is to be
faultless : (r : Resource) → faults_of r ≡ [] → IsResource (row_of r.descriptor) r.args r.body (bytes_of r)
faultless r f =
    let row = row_of r.descriptor in
    let own = (none_first (list_faults row.body r.body) (own_fault (has_room row r.args r.body) r.place) (none_first (argument_faults (fields_of row.descriptor) r.args) (list_faults row.body r.body ++ own_fault (has_room row r.args r.body) r.place) f).1).1 in
    resource_reads row r.args r.body (row_sound r.descriptor) (room_of (has_room row r.args r.body) r.place own)

-- the bytes of faultless descriptors with the end tag read as these descriptors
pub describes : (rs : List Resource) → all_faults rs ≡ [] → Describes rs (all_bytes rs ++ 0x79 ∷ 0 ∷ [])
describes [] e = refl
describes (r ∷ rs) e =
    let f = none_first (faults_of r) (all_faults rs) e in
    let own = faultless r f.0 in
    let end : List ℕ = 0x79 ∷ 0 ∷ [] in
    let a : (bytes_of r ++ all_bytes rs) ++ end ≡ bytes_of r ++ (all_bytes rs ++ end) = append_assoc (bytes_of r) (all_bytes rs) end in
    let t : take (length_of r) ((bytes_of r ++ all_bytes rs) ++ end) ≡ bytes_of r = ap (take (length_of r)) a ∙ ap (λ k. take k (bytes_of r ++ (all_bytes rs ++ end))) (sym own.whole) ∙ take-append_seam (bytes_of r) (all_bytes rs ++ end) in
    let d : drop (length_of r) ((bytes_of r ++ all_bytes rs) ++ end) ≡ all_bytes rs ++ end = ap (drop (length_of r)) a ∙ ap (λ k. drop k (bytes_of r ++ (all_bytes rs ++ end))) (sym own.whole) ∙ drop-append_seam (bytes_of r) (all_bytes rs ++ end) in
    (subst (IsResource (row_of r.descriptor) r.args r.body) (sym t) own, subst (Describes rs) (sym d) (describes rs f.1))
