-- The shortest form of a path is its shortest spelling.
use Rattle.std.proofs.Common.{◌≡◌, ℕ, zero, suc, ◌+◌, ◌-◌, ◌*◌, ◌<◌, ◌≤◌, Bool, true, false, List, [], ◌∷◌, ◌++◌, length, drop, Option, Some, None, refl, sym, ap, ◌∙◌, subst, arith, append_assoc}
use Rattle.std.specs.Prelude.{not, ◌&&◌, ◌||◌, nat_eq, nat_lt, is_some, if◌then◌else◌, reverse, take}
use Rattle.std.specs.List.{filter}
use Rattle.std.proofs.lemmas.Bool.{eqb-true}
use Rattle.std.proofs.lemmas.Bool.Decides.{nat_tests}
use Rattle.std.proofs.lemmas.List.{length-reverse, length-take-le, reverse-append}
use Rattle.acpi_values.specs.Paths.{NameSeg, AbsolutePath, is_same_path}
use Rattle.acpi_state.proofs.Lookups.{is_same_path-true}
use Rattle.asl_tree.specs.declared.path.Path.{Path as Name}
use Rattle.asl_tree.specs.Names.{below, enclosing, candidates, first_of, absolute, is_searched}
use mathlib.Core.Path.{fun_ext}
use Rattle.acpi_names.specs.Paths.{is_flagged, is_named_in, number_in}
use Rattle.acpi_names.specs.Shortest.{segments_length, name_length, shortest, upward, unsearched, is_only, leads_to, short_use, short_element}
use Rattle.acpi_names.proofs.Numbers.{same_path_refl}
use Rattle.acpi_names.proofs.Shortest.{Each, each_kept, unsearched_path}
use Rattle.name_spelling.specs.declared.form.Form.{Form}
use Rattle.name_spelling.specs.Forms.{form_name, form_length, nearer, around, leads_alone, met_in}
use Rattle.name_spelling.proofs.Spelling.{tail_of, nearest_first}

-- one segment further up a path
pub drop_next : (n : ℕ) (path : AbsolutePath) (seg : NameSeg) (outer : AbsolutePath) → drop n path ≡ seg ∷ outer → drop (suc n) path ≡ outer
drop_next zero path seg outer e = ap (drop 1) e
drop_next (suc n) [] seg outer e = absurd (grind arith)
drop_next (suc n) (s ∷ path) seg outer e = drop_next n path seg outer e

pub drop_within : (n : ℕ) (path : AbsolutePath) (seg : NameSeg) (outer : AbsolutePath) → drop n path ≡ seg ∷ outer → n + suc (length outer) ≡ length path
drop_within zero path seg outer e = let x : length path ≡ length (seg ∷ outer) = ap length e in omega (arith, x)
drop_within (suc n) [] seg outer e = absurd (grind arith)
drop_within (suc n) (s ∷ path) seg outer e = omega (arith, drop_within n path seg outer e)

take_next : (n : ℕ) (path : AbsolutePath) (seg : NameSeg) (outer : AbsolutePath) → drop n path ≡ seg ∷ outer → take (suc n) path ≡ take n path ++ seg ∷ []
take_next zero [] seg outer e = absurd (grind arith)
take_next zero (s ∷ path) seg outer e = ap (take 1) e
take_next (suc n) [] seg outer e = absurd (grind arith)
take_next (suc n) (s ∷ path) seg outer e = ap (λ xs. s ∷ xs) (take_next n path seg outer e)

-- the last segments, and one more
last_next : (n : ℕ) (path : AbsolutePath) (seg : NameSeg) (outer : AbsolutePath) → drop n path ≡ seg ∷ outer → reverse (take (suc n) path) ≡ seg ∷ reverse (take n path)
last_next n path seg outer e = ap reverse (take_next n path seg outer e) ∙ reverse-append (take n path) (seg ∷ [])

-- below the rest of a path they are the path
last_below : (n : ℕ) (path : AbsolutePath) → below (drop n path) (reverse (take n path)) ≡ path
last_below n path = by_step n path
  where
    below_more : (xs ys : List NameSeg) (scope : AbsolutePath) → below scope (xs ++ ys) ≡ below (below scope xs) ys
    below_more [] ys scope = refl
    below_more (x ∷ xs) ys scope = below_more xs ys (x ∷ scope)

    by_step : (n : ℕ) (path : AbsolutePath) → below (drop n path) (reverse (take n path)) ≡ path
    by_step zero path = refl
    by_step (suc n) [] = refl
    by_step (suc n) (s ∷ path) =
        ap (below (drop n path)) (reverse-append (s ∷ []) (take n path)) ∙ below_more (reverse (take n path)) (s ∷ []) (drop n path) ∙ ap (λ p. s ∷ p) (by_step n path)

below_same : (segs : List NameSeg) (a b : AbsolutePath) → below a segs ≡ below b segs → a ≡ b
below_same [] a b e = e
below_same (seg ∷ segs) a b e = ap tail_of (below_same segs (seg ∷ a) (seg ∷ b) e)

-- taking segments one by one
pub kept_taking : (segs : List NameSeg) (seg : NameSeg) (outer here whole : AbsolutePath) (n : ℕ) → 0 < n → here ≡ seg ∷ outer → segs ++ take n here ≡ whole → (segs ++ seg ∷ []) ++ take (n - 1) outer ≡ whole
kept_taking segs seg outer here whole zero some e same = absurd (omega (arith, some))
kept_taking segs seg outer here whole (suc n) some e same =
    let x : suc n - 1 ≡ n = omega arith in
    ap (λ k. (segs ++ seg ∷ []) ++ take k outer) x ∙ append_assoc segs (seg ∷ []) (take n outer) ∙ sym (ap (λ p. segs ++ take (suc n) p) e) ∙ same

pub none_taken : (segs : List NameSeg) (here whole : AbsolutePath) (n : ℕ) → here ≡ [] → segs ++ take n here ≡ whole → segs ++ take 0 here ≡ whole
none_taken segs here whole zero e same = same
none_taken segs here whole (suc n) e same = ap (λ p. segs ++ take 0 p) e ∙ sym (ap (λ p. segs ++ take (suc n) p) e) ∙ same

pub all_taken : (segs : List NameSeg) (here whole : AbsolutePath) (n : ℕ) → n ≤ 0 → segs ++ take n here ≡ whole → segs ≡ whole
all_taken segs here whole zero none same = sym (append_nil segs) ∙ same
  where
    append_nil : (xs : List NameSeg) → xs ++ [] ≡ xs
    append_nil [] = refl
    append_nil (x ∷ xs) = ap (λ ys. x ∷ ys) (append_nil xs)
all_taken segs here whole (suc n) none same = absurd (omega (arith, none))

pub differ : (a b : ℕ) → (a ≡ b → ⊥) → nat_eq a b ≡ false
differ a b h = by_same (nat_eq a b) refl
  where
    by_same : (c : Bool) → nat_eq a b ≡ c → c ≡ false
    by_same false e = refl
    by_same true e = absurd (h (eqb-true a b e))

-- a form has as many bytes as its name
pub length_same : (form : Form) (path : AbsolutePath) → form.count ≤ length path → name_length (form_name form path) ≡ form_length form
length_same form path fits = ap (λ n. (if form.root then 1 else form.up) + segments_length n) (length-reverse (take form.count path) ∙ length-take-le form.count path fits)

-- from the root all segments are written
pub root_form : (path : AbsolutePath) (n : ℕ) → n ≡ length path → form_name (record { root = true; up = 0; count = n }) path ≡ absolute path
root_form path n e = ap (λ segs. record { root = true; up = 0; segs = reverse segs }) (ap (λ k. take k path) e ∙ whole path)
  where
    whole : (path : AbsolutePath) → take (length path) path ≡ path
    whole [] = refl
    whole (s ∷ path) = ap (λ p. s ∷ p) (whole path)

module _ (has : AbsolutePath → Bool) (path scope : AbsolutePath) where
  -- the spelling that is left to find, where this one is the best so far, by what stands that far up the path
  abbrev pub left_to_find : Form → ℕ → AbsolutePath → Name
  left_to_find best n rest = shortest (form_name best path) (filter (leads_to has path scope) (filter (λ name. not (is_searched name)) (upward (reverse (take n path)) rest scope)))

  abbrev upward_name : ℕ → List NameSeg → Name
  upward_name up segs = record { root = false; up = up; segs = segs }

  -- a name that is not searched leads to the path where it is below the right scope
  leads_below : (up : ℕ) (segs : List NameSeg) (outer : AbsolutePath) (c : Bool) → has path ≡ true → is_searched (upward_name up segs) ≡ false → below outer segs ≡ path → is_same_path (drop up scope) outer ≡ c → leads_to has path scope (upward_name up segs) ≡ c
  leads_below up segs outer c there s whole e =
      ap (λ ps. is_only path (candidates has ps)) (unsearched_path (upward_name up segs) scope s) ∙ by_same c e
    where
      place : AbsolutePath
      place = below (drop up scope) segs

      by_has : (b : Bool) → is_same_path (drop up scope) outer ≡ false → is_only path (if b then place ∷ [] else []) ≡ false
      by_has false e = refl
      by_has true e = by_place (is_same_path place path) refl
        where
          by_place : (d : Bool) → is_same_path place path ≡ d → d ≡ false
          by_place false p = refl
          by_place true p =
              absurd (let at : drop up scope ≡ outer = below_same segs (drop up scope) outer (is_same_path-true place path p ∙ sym whole) in let x = sym (ap (λ q. is_same_path q outer) at ∙ same_path_refl outer) ∙ e in grind arith)

      by_same : (c : Bool) → is_same_path (drop up scope) outer ≡ c → is_only path (candidates has (place ∷ [])) ≡ c
      by_same true e =
          let at : place ≡ path = ap (λ q. below q segs) (is_same_path-true (drop up scope) outer e) ∙ whole in
          ap (λ q. is_only path (candidates has (q ∷ []))) at ∙ ap (λ b. is_only path (if b then path ∷ [] else [])) there ∙ same_path_refl path
      by_same false e = by_has (has place) e

  -- a form needs no search where it has a `^` or more segments
  searched_as : (up n : ℕ) (segs : List NameSeg) (seg : NameSeg) → length segs ≡ n → is_searched (upward_name up (seg ∷ segs)) ≡ not (nat_lt 0 up || nat_lt 1 (suc n))
  searched_as zero zero [] seg e = refl
  searched_as zero (suc n) [] seg e = absurd (grind arith)
  searched_as zero zero (s ∷ segs) seg e = absurd (grind arith)
  searched_as zero (suc n) (s ∷ segs) seg e = let x : nat_lt 1 (suc (suc n)) ≡ true = grind (arith, nat_tests) in ap (λ b. not (nat_lt 0 0 || b)) (sym x)
  searched_as (suc up) n segs seg e = let x : nat_lt 0 (suc up) ≡ true = grind (arith, nat_tests) in ap (λ b. not (b || nat_lt 1 (suc n))) (sym x)

  -- one scope further out
  pub next_form : (best form : Form) (n : ℕ) (seg : NameSeg) (outer : AbsolutePath) (leads : Bool) → has path ≡ true → best.count ≤ length path → drop n path ≡ seg ∷ outer → form ≡ record { root = false; up = length scope - length outer; count = suc n } → is_same_path (drop (length scope - length outer) scope) outer ≡ leads →
      left_to_find best n (seg ∷ outer) ≡ left_to_find (nearer best form leads) (suc n) outer
  next_form best form n seg outer leads there fits e is under =
      by_searched (is_searched F) refl
    where
      segs : List NameSeg
      segs = reverse (take n path)

      up : ℕ
      up = length scope - length outer

      F : Name
      F = upward_name up (seg ∷ segs)

      further : suc n ≤ length path
      further = omega (arith, drop_within n path seg outer e)

      last : reverse (take (suc n) path) ≡ seg ∷ segs
      last = last_next n path seg outer e

      named : form_name form path ≡ F
      named = ap (λ f. form_name f path) is ∙ ap (upward_name up) last

      others : List Name
      others = upward (seg ∷ segs) outer scope

      rest : List Name
      rest = filter (leads_to has path scope) (filter (λ name. not (is_searched name)) others)

      rest_is : filter (leads_to has path scope) (filter (λ name. not (is_searched name)) (upward (reverse (take (suc n) path)) outer scope)) ≡ rest
      rest_is = ap (λ s. filter (leads_to has path scope) (filter (λ name. not (is_searched name)) (upward s outer scope))) last

      unneeded : is_searched F ≡ not (nat_lt 0 form.up || nat_lt 1 form.count)
      unneeded = searched_as up n segs seg (length-reverse (take n path) ∙ length-take-le n path (omega (arith, further))) ∙ ap (λ (f : Form). not (nat_lt 0 f.up || nat_lt 1 f.count)) (sym is)

      free : (b : Bool) → is_searched F ≡ b → (nat_lt 0 form.up || nat_lt 1 form.count) ≡ not b
      free b s = turned (nat_lt 0 form.up || nat_lt 1 form.count) ∙ ap not (sym unneeded ∙ s)
        where
          turned : (c : Bool) → c ≡ not (not c)
          turned true = refl
          turned false = refl

      shorter_same : nat_lt (form_length form) (form_length best) ≡ nat_lt (name_length F) (name_length (form_name best path))
      shorter_same =
          ap (λ k. nat_lt k (form_length best)) (sym (length_same form path (subst (λ (f : Form). f.count ≤ length path) (sym is) further)) ∙ ap name_length named)
          ∙ ap (nat_lt (name_length F)) (sym (length_same best path fits))

      chosen : (b : Bool) → form_name (if b then form else best) path ≡ (if b then F else form_name best path)
      chosen true = named
      chosen false = refl

      whole : below outer (seg ∷ segs) ≡ path
      whole = ap (λ q. below q segs) (sym e) ∙ last_below n path

      by_leads : (nat_lt 0 form.up || nat_lt 1 form.count) ≡ true → (c : Bool) → leads_to has path scope F ≡ c →
          shortest (form_name best path) (if c then F ∷ rest else rest) ≡ shortest (form_name (if c && (nat_lt 0 form.up || nat_lt 1 form.count) && nat_lt (form_length form) (form_length best) then form else best) path) rest
      by_leads f true h =
          ap (λ k. shortest (if k then F else form_name best path) rest) (sym shorter_same) ∙ ap (λ q. shortest q rest) (sym (chosen (nat_lt (form_length form) (form_length best))))
          ∙ ap (λ k. shortest (form_name (if k && nat_lt (form_length form) (form_length best) then form else best) path) rest) (sym f)
      by_leads f false h = refl

      last_step : shortest (form_name (nearer best form leads) path) rest ≡ left_to_find (nearer best form leads) (suc n) outer
      last_step = ap (shortest (form_name (nearer best form leads) path)) (sym rest_is)

      dull : (c : Bool) → form_name best path ≡ form_name (if c && false && nat_lt (form_length form) (form_length best) then form else best) path
      dull true = refl
      dull false = refl

      by_searched : (b : Bool) → is_searched F ≡ b → shortest (form_name best path) (filter (leads_to has path scope) (if not b then F ∷ filter (λ name. not (is_searched name)) others else filter (λ name. not (is_searched name)) others)) ≡ left_to_find (nearer best form leads) (suc n) outer
      by_searched true s =
          ap (λ name. shortest name rest) (dull leads) ∙ ap (λ k. shortest (form_name (if leads && k && nat_lt (form_length form) (form_length best) then form else best) path) rest) (sym (free true s)) ∙ last_step
      by_searched false s =
          let h : leads_to has path scope F ≡ leads = leads_below up (seg ∷ segs) outer leads there s whole under in
          ap (λ c. shortest (form_name best path) (if c then F ∷ rest else rest)) h ∙ by_leads (free false s) leads h ∙ last_step

-- the same, of what the code finds
pub found_next : (has : AbsolutePath → Bool) (path scope : AbsolutePath) (best new : Form) (n next up : ℕ) (seg : NameSeg) (outer : AbsolutePath) (leads : Bool) → has path ≡ true → best.count ≤ length path → drop n path ≡ seg ∷ outer → next ≡ suc n → up ≡ length scope - length outer → is_same_path (drop up scope) outer ≡ leads
    → new ≡ nearer best (record { root = false; up = up; count = next }) leads → left_to_find has path scope best n (seg ∷ outer) ≡ left_to_find has path scope new next outer
found_next has path scope best new n next up seg outer leads there fits e one higher under is =
    let form : Form = record { root = false; up = up; count = next } in
    let same : form ≡ record { root = false; up = length scope - length outer; count = suc n } = ap (λ k. record { root = false; up = up; count = k }) one ∙ ap (λ u. record { root = false; up = u; count = suc n }) higher in
    next_form has path scope best form n seg outer leads there fits e same (ap (λ u. is_same_path (drop u scope) outer) (sym higher) ∙ under)
    ∙ ap (λ k. left_to_find has path scope (nearer best form leads) k outer) (sym one) ∙ ap (λ f. left_to_find has path scope f next outer) (sym is)

pub nearer_fits : (best form : Form) (leads : Bool) (n : ℕ) → best.count ≤ n → form.count ≤ n → (nearer best form leads).count ≤ n
nearer_fits best form leads n h k = by_choice (leads && (nat_lt 0 form.up || nat_lt 1 form.count) && nat_lt (form_length form) (form_length best))
  where
    by_choice : (c : Bool) → (if c then form else best).count ≤ n
    by_choice true = k
    by_choice false = h

drop_none : (n : ℕ) → drop {A = NameSeg} n [] ≡ []
drop_none zero = refl
drop_none (suc n) = refl

pub drop_further : (m n : ℕ) (path : AbsolutePath) → m ≤ n → drop (n - m) (drop m path) ≡ drop n path
drop_further zero n path le = let x : n - 0 ≡ n = omega arith in ap (λ k. drop k path) x
drop_further (suc m) zero path le = absurd (omega (arith, le))
drop_further (suc m) (suc n) [] le = drop_none (suc n - suc m)
drop_further (suc m) (suc n) (s ∷ path) le =
    let x : suc n - suc m ≡ n - m = omega arith in ap (λ k. drop k (drop m path)) x ∙ drop_further m n path (omega (arith, le))

-- one segment has four bytes, and more have more
segments_some : (n : ℕ) → 4 ≤ segments_length (suc n)
segments_some zero = omega arith
segments_some (suc zero) = omega arith
segments_some (suc (suc n)) = let x : 4 ≤ 2 + 4 * suc (suc (suc n)) = omega arith in x

-- where no other name is shorter, a name is the shortest
stays : (name : Name) (names : List Name) → Each (λ other. name_length name ≤ name_length other) names → shortest name names ≡ name
stays name [] all = refl
stays name (other ∷ names) all =
    let x : nat_lt (name_length other) (name_length name) ≡ false = grind (arith, nat_tests, all.0) in
    ap (λ b. shortest (if b then other else name) names) x ∙ stays name names all.1

upward_long : (segs : List NameSeg) (path scope : AbsolutePath) → Each (λ name. 4 ≤ name_length name) (upward segs path scope)
upward_long segs [] scope = tt
upward_long segs (seg ∷ outer) scope = (omega (arith, segments_some (length segs)), upward_long (seg ∷ segs) outer scope)

module _ (has : AbsolutePath → Bool) where
  -- a used name is the last segment alone where that leads there, and else it needs no search
  pub used_form : (path scope : AbsolutePath) (alone : Bool) → leads_alone has path scope ≡ alone → short_use has path scope ≡ (if alone then form_name (record { root = false; up = 0; count = 1 }) path else short_element has path scope)
  used_form [] scope false e = refl
  used_form [] scope true e = absurd (grind arith)
  used_form (seg ∷ outer) scope alone e =
      ap (λ b. shortest (absolute path) (if b then one ∷ others else others)) e ∙ by_alone alone
    where
      path : AbsolutePath
      path = seg ∷ outer

      one : Name
      one = record { root = false; up = 0; segs = seg ∷ [] }

      others : List Name
      others = filter (leads_to has path scope) (unsearched path scope)

      long : Each (λ name. 4 ≤ name_length name) others
      long = each_kept (leads_to has path scope) (λ name. 4 ≤ name_length name) (unsearched path scope) (each_kept (λ name. not (is_searched name)) (λ name. 4 ≤ name_length name) (upward [] path scope) (upward_long [] path scope))

      rooted : nat_lt 4 (name_length (absolute path)) ≡ true
      rooted =
          let x : 4 ≤ segments_length (suc (length outer)) = segments_some (length outer) in
          let y : 1 + segments_length (length (reverse path)) ≡ 1 + segments_length (suc (length outer)) = ap (λ n. 1 + segments_length n) (length-reverse path) in grind (arith, nat_tests, x, y)

      by_alone : (b : Bool) → shortest (absolute path) (if b then one ∷ others else others) ≡ (if b then form_name (record { root = false; up = 0; count = 1 }) path else short_element has path scope)
      by_alone false = refl
      by_alone true = ap (λ b. shortest (if b then one else absolute path) others) rooted ∙ stays one others long

  first_none : (path : AbsolutePath) (paths : List AbsolutePath) → first_of paths ≡ None → is_only path paths ≡ false
  first_none path [] e = refl
  first_none path (other ∷ paths) e = absurd (grind arith)

  -- a search that finds nothing, or another path
  pub alone_nowhere : (seg : NameSeg) (outer scope : AbsolutePath) → first_of (candidates has (enclosing seg scope)) ≡ None → leads_alone has (seg ∷ outer) scope ≡ false
  alone_nowhere seg outer scope e = first_none (seg ∷ outer) (candidates has (enclosing seg scope)) e

  pub alone_elsewhere : (seg : NameSeg) (outer scope other : AbsolutePath) → first_of (candidates has (enclosing seg scope)) ≡ Some other → is_same_path other (seg ∷ outer) ≡ false → leads_alone has (seg ∷ outer) scope ≡ false
  alone_elsewhere seg outer scope other e apart =
      ap (is_only (seg ∷ outer)) (nearest_first has seg scope other e) ∙ by_more (candidates has (around seg (tail_of other)))
    where
      by_more : (paths : List AbsolutePath) → is_only (seg ∷ outer) (other ∷ paths) ≡ false
      by_more [] = apart
      by_more (p ∷ paths) = refl

  -- a search that finds the path, and nothing or more behind it
  pub alone_here : (seg : NameSeg) (outer scope : AbsolutePath) → first_of (candidates has (enclosing seg scope)) ≡ Some (seg ∷ outer) → first_of (candidates has (around seg outer)) ≡ None → leads_alone has (seg ∷ outer) scope ≡ true
  alone_here seg outer scope e none =
      ap (is_only (seg ∷ outer)) (nearest_first has seg scope (seg ∷ outer) e) ∙ by_more (candidates has (around seg outer)) none
    where
      by_more : (paths : List AbsolutePath) → first_of paths ≡ None → is_only (seg ∷ outer) ((seg ∷ outer) ∷ paths) ≡ true
      by_more [] h = same_path_refl (seg ∷ outer)
      by_more (p ∷ paths) h = absurd (grind arith)

  pub alone_first : (seg : NameSeg) (outer scope other : AbsolutePath) → first_of (candidates has (enclosing seg scope)) ≡ Some (seg ∷ outer) → first_of (candidates has (around seg outer)) ≡ Some other → leads_alone has (seg ∷ outer) scope ≡ false
  alone_first seg outer scope other e more =
      ap (is_only (seg ∷ outer)) (nearest_first has seg scope (seg ∷ outer) e) ∙ by_more (candidates has (around seg outer)) more
    where
      by_more : (paths : List AbsolutePath) → first_of paths ≡ Some other → is_only (seg ∷ outer) ((seg ∷ outer) ∷ paths) ≡ false
      by_more [] h = absurd (grind arith)
      by_more (p ∷ paths) h = refl

  -- what two searches tell
  pub alone_told : (path scope first : AbsolutePath) (seg : NameSeg) (outer : AbsolutePath) → path ≡ seg ∷ outer → Some first ≡ first_of (candidates has (enclosing seg scope)) → first ≡ path → not (is_some (first_of (candidates has (around seg outer)))) ≡ leads_alone has path scope
  alone_told path scope first seg outer e found same =
      by_more (first_of (candidates has (around seg outer))) refl
    where
      first_is : first_of (candidates has (enclosing seg scope)) ≡ Some (seg ∷ outer)
      first_is = sym found ∙ ap Some (same ∙ e)

      by_more : (o : Option AbsolutePath) → first_of (candidates has (around seg outer)) ≡ o → not (is_some o) ≡ leads_alone has path scope
      by_more None h = sym (ap (λ p. leads_alone has p scope) e ∙ alone_here seg outer scope first_is h)
      by_more (Some other) h = sym (ap (λ p. leads_alone has p scope) e ∙ alone_first seg outer scope other first_is h)

  pub alone_untold : (path scope first : AbsolutePath) (seg : NameSeg) (outer : AbsolutePath) → path ≡ seg ∷ outer → Some first ≡ first_of (candidates has (enclosing seg scope)) → is_same_path first path ≡ false → leads_alone has path scope ≡ false
  alone_untold path scope first seg outer e found apart =
      ap (λ p. leads_alone has p scope) e ∙ alone_elsewhere seg outer scope first (sym found) (ap (is_same_path first) (sym e) ∙ apart)

-- where no others stand in the way, what is met is what is named
pub none_beside : (paths : List AbsolutePath) (named also : List Bool) → length also ≡ 0 → met_in paths named also ≡ is_named_in paths named
none_beside paths named [] e = fun_ext (λ path. by_number (number_in paths path) (is_named_in paths named path))
  where
    by_number : (o : Option ℕ) (b : Bool) → (b || is_flagged [] o) ≡ b
    by_number None true = refl
    by_number None false = refl
    by_number (Some n) true = refl
    by_number (Some n) false = refl
none_beside paths named (b ∷ bs) e = absurd (omega (arith, e))
