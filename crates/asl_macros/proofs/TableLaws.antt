-- A change of the table is a definition in front of the history.
use Rattle.std.proofs.Common.{◌≡◌, ℕ, Bool, true, false, cond, List, ◌∷◌, Option, Some, None, refl, sym, ap, subst, ◌∙◌, Global, Vec}
use Rattle.std.specs.Option.{option_map}
use Rattle.std.specs.Str.{bytes_eq}
use Rattle.std.specs.HashMap.{HashMap, get_by, UpdatesBy}
use Rattle.std.specs.Map.{lookup, IsKeyTest, AreApart, KeepsOthers}
use Rattle.std.specs.Cmp.Lexicographic.{nat_list_eq_equiv, bytes_decides}
use Rattle.asl_macros.specs.declared.table.Macros.{Macros}
use Rattle.asl_macros.specs.History.{History, Defines, Undefines}
use Rattle.asl_macros.specs.Table.{text_at, Tells}

apart : (bs cs ks : List ℕ) → bytes_eq bs cs ≡ false → bytes_eq bs ks ≡ true → bytes_eq cs ks ≡ false
apart bs cs ks n y = nat_list_eq_equiv.symm cs ks ∙ sym (nat_list_eq_equiv.congr bs ks cs y) ∙ n

other_entries : {K X : Type 0} (eq : K → K → Bool) (test : K → Bool) (old new : List (K × X)) → KeepsOthers eq test old new → (other : K → Bool) → IsKeyTest eq other → AreApart test other → lookup other new ≡ lookup other old
unfolding KeepsOthers
other_entries eq test old new h = h

-- the value at a name
unfoldable pub value_at : {X S : Type 0} → HashMap (Vec ℕ Global) X S → List ℕ → Option X
value_at m name = get_by (λ key. bytes_eq name key.items) m

by_cases : {X S : Type 0} (b : Bool) (bs cs : List ℕ) (m n : HashMap (Vec ℕ Global) X S) (w : Option X) → bytes_eq bs cs ≡ b
    → UpdatesBy (λ x y. bytes_eq x.items y.items) (λ key. bytes_eq bs key.items) m n w → value_at n cs ≡ cond b w (value_at m cs)
unfolding value_at
by_cases true bs cs m n w e h = subst (λ l. get_by (λ key. bytes_eq l key.items) n ≡ w) ((bytes_decides bs cs).0 e) h.1
by_cases false bs cs m n w e h =
    other_entries (λ x y. bytes_eq x.items y.items) (λ key. bytes_eq bs key.items) m.entries n.entries h.3 (λ key. bytes_eq cs key.items) (λ x y. nat_list_eq_equiv.congr cs x.items y.items) (λ key. apart bs cs key.items e)

pub updates : {X S : Type 0} (bs : List ℕ) (m n : HashMap (Vec ℕ Global) X S) (w : Option X)
    → UpdatesBy (λ x y. bytes_eq x.items y.items) (λ key. bytes_eq bs key.items) m n w → (cs : List ℕ) → value_at n cs ≡ cond (bytes_eq bs cs) w (value_at m cs)
updates bs m n w h cs = by_cases (bytes_eq bs cs) bs cs m n w refl h

texts : {S : Type 0} (m n : HashMap (Vec ℕ Global) (Vec ℕ Global) S) (b : Bool) (bs cs : List ℕ) (w : Option (Vec ℕ Global)) → value_at n cs ≡ cond b w (value_at m cs)
    → option_map (λ text. text.items) (value_at n cs) ≡ cond b (option_map (λ text. text.items) w) (option_map (λ text. text.items) (value_at m cs))
texts m n true bs cs w e = ap (option_map (λ text. text.items)) e
texts m n false bs cs w e = ap (option_map (λ text. text.items)) e

-- a table in which the name has a text
pub tells_defined : (old new : Macros) (history : History) (key value : Vec ℕ Global) (name text : List ℕ) → key.items ≡ name → value.items ≡ text
    → UpdatesBy (λ x y. bytes_eq x.items y.items) (λ other. bytes_eq key.items other.items) old.table new.table (Some value) → Tells old history → Tells new (Defines name text ∷ history)
unfolding value_at
tells_defined old new history key value name text e1 e2 u tells = record {
  text = λ other.
      texts old.table new.table (bytes_eq key.items other) key.items other (Some value) (updates key.items old.table new.table (Some value) u other)
      ∙ ap (λ k. cond (bytes_eq k other) (Some value.items) (text_at old other)) e1 ∙ ap (λ v. cond (bytes_eq name other) (Some v) (text_at old other)) e2
      ∙ ap (cond (bytes_eq name other) (Some text)) (tells.text other);
}

-- a table in which the name has none
pub tells_undefined : (old new : Macros) (history : History) (name : List ℕ) → UpdatesBy (λ x y. bytes_eq x.items y.items) (λ other. bytes_eq name other.items) old.table new.table None → Tells old history → Tells new (Undefines name ∷ history)
unfolding value_at
tells_undefined old new history name u tells = record {
  text = λ other. texts old.table new.table (bytes_eq name other) name other None (updates name old.table new.table None u other) ∙ ap (cond (bytes_eq name other) None) (tells.text other);
}
