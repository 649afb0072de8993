-- Files put one after another.
use Rattle.std.specs.Prelude.{◌≡◌, ℕ, ◌+◌, ◌<◌, ◌≤◌, List, [], ◌∷◌, length, map, get_or, take, drop, refl}
use Rattle.std.specs.declared.option.Option.{Option}
use Rattle.std.proofs.Common.{◌∙◌, ap, sym, subst, inl, inr, arith, add-one, drop-cons}
use Rattle.std.proofs.lemmas.List.{take_all, get_or-map, length-map}
use Rattle.iasl_ports.specs.Gained.{Named, Gains, GainsSome, IsPartOfFirst}
use Rattle.iasl_ports.specs.GainedLaws.{gains_then, gains_next}
use Rattle.iasl_ports.specs.Put.{GainsPart}
use Rattle.iasl_ports.specs.Delivery.{name_and_bytes}
use Rattle.iasl_ports.specs.declared.delivery.OutFile.{OutFile}

-- the file of a place stands first in what is left from there on
pub first_left : (files : List OutFile) (i : ℕ) (file : OutFile) → i < length files → file ≡ get_or files i file → drop i (map name_and_bytes files) ≡ name_and_bytes file ∷ drop (i + 1) (map name_and_bytes files)
first_left files i file h e =
    let inside : i < length (map name_and_bytes files) = omega (arith, h, length-map files name_and_bytes) in
    let here : get_or (map name_and_bytes files) i (name_and_bytes file) ≡ name_and_bytes file = get_or-map name_and_bytes files i file (name_and_bytes file) h ∙ sym (ap name_and_bytes e) in
    rw (add-one, drop-cons (map name_and_bytes files) i (name_and_bytes file), here)

pub puts_next : {a b c : Option (List Named)} (files : List OutFile) (i : ℕ) (file : OutFile) → i < length files → file ≡ get_or files i file → Gains a b (take i (map name_and_bytes files)) → Gains b c (name_and_bytes file ∷ []) → Gains a c (take (i + 1) (map name_and_bytes files))
puts_next {a} {b} {c} files i file h e p q =
    let Q : List Named → Type 0 = λ l. Gains b c (take 1 l) in
    gains_next (map name_and_bytes files) i 1 p (subst Q (sym (first_left files i file h e)) q)

pub has_put_all : {a b : Option (List Named)} (files : List OutFile) (i : ℕ) → length files ≤ i → Gains a b (take i (map name_and_bytes files)) → Gains a b (map name_and_bytes files)
has_put_all {a} {b} files i h p = rw (take_all i (map name_and_bytes files) (omega (arith, h, length-map files name_and_bytes))) at p

pub stops_whole : {torn : Type 0} {a b c : Option (List Named)} (due : List Named) (i : ℕ) → Gains a b (take i due) → Gains b c [] → GainsSome torn a c due
stops_whole due i p q = record { whole = i; part = []; gained = gains_then p q; next = inl refl }

pub stops_torn : {torn : Type 0} {a b c : Option (List Named)} (files : List OutFile) (i : ℕ) (file : OutFile) → torn → i < length files → file ≡ get_or files i file → Gains a b (take i (map name_and_bytes files)) → GainsPart b c (name_and_bytes file) → GainsSome torn a c (map name_and_bytes files)
stops_torn {torn} {a} {b} {c} files i file t h e p q =
    elim q [
      | inl none ↦ stops_whole (map name_and_bytes files) i p none
      | inr some ↦
          let R : List Named → Type 0 = λ l. IsPartOfFirst l (((name_and_bytes file).0, take some.0 (name_and_bytes file).1) ∷ []) in
          record {
            whole = i;
            part = ((name_and_bytes file).0, take some.0 (name_and_bytes file).1) ∷ [];
            gained = gains_then p some.1;
            next = inr (t, subst R (sym (first_left files i file h e)) (inr (some.0, refl)));
          }
    ]
