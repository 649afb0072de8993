-- A table of labels with one more.
use Rattle.std.proofs.Common.{◌≡◌, ◌≤◌, ◌+◌, ℕ, zero, suc, length, drop, arith, Bool, true, false, cond, List, [], ◌∷◌, Option, Some, None, refl, sym, ap, subst, ◌∙◌, Global, Vec}
use Rattle.std.specs.Str.{bytes_eq}
use Rattle.std.specs.HashMap.{HashMap, get_by, UpdatesBy}
use Rattle.std.specs.Map.{lookup, IsKeyTest, AreApart, KeepsOthers}
use Rattle.std.specs.Cmp.Lexicographic.{nat_list_eq_equiv, bytes_decides}
use Rattle.data_text.specs.declared.field_line.FieldLine.{FieldLine}
use Rattle.data_generic.specs.declared.labels.Label.{Label}
use Rattle.data_generic.specs.declared.labels.Labels.{Labels}
use Rattle.data_generic.specs.Labels.{is_name, name_of, behind_line, label_from}
use Rattle.data_generic.specs.Words.{name_key}
use Rattle.data_generic.specs.Walk.{data_walk, walk_all}
use Rattle.data_generic.specs.LabelTable.{label_at, label_for, or_else, with_label, told_with, AreLabelsOf}

apart : (bs cs ks : List ℕ) → bytes_eq bs cs ≡ false → bytes_eq bs ks ≡ true → bytes_eq cs ks ≡ false
apart bs cs ks n y = nat_list_eq_equiv.symm cs ks ∙ sym (nat_list_eq_equiv.congr bs ks cs y) ∙ n

other_entries : {K X : Type 0} (eq : K → K → Bool) (test : K → Bool) (old new : List (K × X)) → KeepsOthers eq test old new → (other : K → Bool) → IsKeyTest eq other → AreApart test other → lookup other new ≡ lookup other old
unfolding KeepsOthers
other_entries eq test old new h = h

-- the value at a name
unfoldable value_at : {X S : Type 0} → HashMap (Vec ℕ Global) X S → List ℕ → Option X
value_at m name = get_by (λ key. bytes_eq name key.items) m

by_cases : {X S : Type 0} (b : Bool) (bs cs : List ℕ) (m n : HashMap (Vec ℕ Global) X S) (w : Option X) → bytes_eq bs cs ≡ b
    → UpdatesBy (λ x y. bytes_eq x.items y.items) (λ key. bytes_eq bs key.items) m n w → value_at n cs ≡ cond b w (value_at m cs)
unfolding value_at
by_cases true bs cs m n w e h = subst (λ l. get_by (λ key. bytes_eq l key.items) n ≡ w) ((bytes_decides bs cs).0 e) h.1
by_cases false bs cs m n w e h =
    other_entries (λ x y. bytes_eq x.items y.items) (λ key. bytes_eq bs key.items) m.entries n.entries h.3 (λ key. bytes_eq cs key.items) (λ x y. nat_list_eq_equiv.congr cs x.items y.items) (λ key. apart bs cs key.items e)

or_none : (old : Option Label) → or_else old None ≡ old
or_none None = refl
or_none (Some label) = refl

-- where the name is new, its label is there, and all else stays
with_new : (name key : List ℕ) (label : Label) (old new : Option Label) (b : Bool) → bytes_eq name key ≡ b → (b ≡ true → old ≡ None) → new ≡ cond b (Some label) old → new ≡ with_label name label old key
with_new name key label old new true e none h =
    let turned : bytes_eq key name ≡ true = nat_list_eq_equiv.symm key name ∙ e in
    h ∙ sym (ap (λ (c : Bool). or_else old (cond c (Some label) None)) turned ∙ ap (λ (o : Option Label). or_else o (Some label)) (none refl))
with_new name key label old new false e none h =
    let turned : bytes_eq key name ≡ false = nat_list_eq_equiv.symm key name ∙ e in
    h ∙ sym (ap (λ (c : Bool). or_else old (cond c (Some label) None)) turned ∙ or_none old)

-- the table with a label whose name it had not
pub added : (old new : Labels) (name : Vec ℕ Global) (label : Label) → label_at old name.items ≡ None
    → UpdatesBy (λ x y. bytes_eq x.items y.items) (λ other. bytes_eq name.items other.items) old.table new.table (Some label) → (key : List ℕ) → label_at new key ≡ with_label name.items label (label_at old key) key
unfolding value_at
added old new name label none u key =
    with_new name.items key label (label_at old key) (label_at new key) (bytes_eq name.items key) refl (λ e. subst (λ (k : List ℕ). label_at old k ≡ None) ((bytes_decides name.items key).0 e) none)
    (by_cases (bytes_eq name.items key) name.items key old.table new.table (Some label) refl u)

with_there : (name key : List ℕ) (label there : Label) (old : Option Label) (b : Bool) → bytes_eq key name ≡ b → (b ≡ true → old ≡ Some there) → old ≡ with_label name label old key
with_there name key label there old true e is = is refl ∙ sym (ap (λ (o : Option Label). or_else o (cond (bytes_eq key name) (Some label) None)) (is refl))
with_there name key label there old false e is = sym (ap (λ (c : Bool). or_else old (cond c (Some label) None)) e ∙ or_none old)

-- the table stays where it has the name
pub stays : (old : Labels) (name : List ℕ) (label there : Label) → label_at old name ≡ Some there → (key : List ℕ) → label_at old key ≡ with_label name label (label_at old key) key
stays old name label there is key =
    with_there name key label there (label_at old key) (bytes_eq key name) refl (λ e. ap (label_at old) ((bytes_decides key name).0 e) ∙ is)

-- ---- one line more

or_assoc : (one other third : Option Label) → or_else (or_else one other) third ≡ or_else one (or_else other third)
or_assoc None other third = refl
or_assoc (Some label) other third = refl

if_named : (b : Bool) (label : Label) (rest : Option Label) → cond b (Some label) rest ≡ or_else (cond b (Some label) None) rest
if_named true label rest = refl
if_named false label rest = refl

-- a line that declares a name
pub told_named : (old new : Labels) (name key : List ℕ) (index : ℕ) (offset behind : Option ℕ) (line : FieldLine) (lines : List FieldLine) → name_of line ≡ Some name → behind ≡ behind_line offset line
    → label_at new key ≡ with_label name (record { index = index; offset = offset }) (label_at old key) key → told_with old key index offset (line ∷ lines) ≡ told_with new key (index + 1) behind lines
told_named old new name key index offset behind line lines is b h =
    let label : Label = record { index = index; offset = offset } in
    let rest : Option Label = label_from key (index + 1) (behind_line offset line) lines in
    ap (λ (n : Option (List ℕ)). or_else (label_at old key) (cond (is_name key n) (Some label) rest)) is
    ∙ ap (or_else (label_at old key)) (if_named (bytes_eq key name) label rest)
    ∙ sym (or_assoc (label_at old key) (cond (bytes_eq key name) (Some label) None) rest)
    ∙ ap (λ (o : Option Label). or_else o rest) (sym h)
    ∙ ap (λ (o : Option ℕ). or_else (label_at new key) (label_from key (index + 1) o lines)) (sym b)

-- any other line
pub told_plain : (labels : Labels) (key : List ℕ) (index : ℕ) (offset behind : Option ℕ) (line : FieldLine) (lines : List FieldLine) → name_of line ≡ None → behind ≡ behind_line offset line
    → told_with labels key index offset (line ∷ lines) ≡ told_with labels key (index + 1) behind lines
told_plain labels key index offset behind line lines is b =
    ap (λ (n : Option (List ℕ)). or_else (label_at labels key) (cond (is_name key n) (Some (record { index = index; offset = offset })) (label_from key (index + 1) (behind_line offset line) lines))) is
    ∙ ap (λ (o : Option ℕ). or_else (label_at labels key) (label_from key (index + 1) o lines)) (sym b)

-- ---- all lines

pub start : (labels : Labels) (lines : List FieldLine) → ((name : List ℕ) → label_at labels name ≡ None) → (key : List ℕ) → told_with labels key 0 (Some 36) lines ≡ label_from key 0 (Some 36) lines
start labels lines none key = ap (λ (o : Option Label). or_else o (label_from key 0 (Some 36) lines)) (none key)

drop_past : (lines : List FieldLine) (n : ℕ) → length lines ≤ n → drop n lines ≡ []
drop_past [] zero h = refl
drop_past [] (suc n) h = refl
drop_past (line ∷ lines) zero h = absurd (omega (arith, h))
drop_past (line ∷ lines) (suc n) h = drop_past lines n (omega (arith, h))

pub finish : (labels : Labels) (lines : List FieldLine) (index : ℕ) (offset : Option ℕ) → length lines ≤ index → ((key : List ℕ) → told_with labels key index offset (drop index lines) ≡ label_from key 0 (Some 36) lines) → AreLabelsOf labels lines
finish labels lines index offset past h =
    λ name. sym (or_none (label_at labels (name_key name))) ∙ sym (ap (λ (ls : List FieldLine). told_with labels (name_key name) index offset ls) (drop_past lines index past)) ∙ h (name_key name)

-- the walk by the table is that by the lines themselves
pub walk_same : (labels : Labels) (lines : List FieldLine) → AreLabelsOf labels lines → data_walk (label_for labels) 0 36 lines ≡ walk_all lines
walk_same labels lines h = λ i. data_walk (λ name. h name i) 0 36 lines
