-- The items of a source that are blocks, each read alone.
use Rattle.std.proofs.Common.{◌≡◌, ℕ, suc, ◌+◌, ◌<◌, ◌≤◌, length, reverse, take, drop, get_or, drop-cons, add-one, Bool, true, false, List, [], ◌∷◌, ◌++◌, arith, append_assoc, Result, Ok, Err, refl, sym, ap, ◌∙◌, subst}
use Rattle.std.specs.Prelude.{IfOk, Option, nat_le, if◌then◌else◌, ⊤}
use Rattle.std.specs.Option.{option_to_list}
use Rattle.std.specs.Result.{result_ok}
use Rattle.std.specs.Str.{IsAscii}
use Rattle.std.specs.declared.alloc.AllocError.{AllocError}
use Rattle.std.proofs.lemmas.List.{append-nil, reverse-append, take_more, take_all}
use Rattle.iasl_messages.specs.declared.message.Message.{Message}
use Rattle.iasl_messages.specs.declared.place.Line.{Line}
use Rattle.iasl_messages.specs.declared.place.Place.{Place}
use Rattle.asl_syntax.specs.declared.raw.Raw.{Raw}
use Rattle.asl_syntax.specs.Written.{writtens}
use Rattle.asl_tree.specs.declared.program.Block.{Block}
use Rattle.asl_shape.specs.Forms.{errors_at, source_errors, alone, block_place, IsBlockOf, AreBlocksOf, AreRight}
use Rattle.aml_sizes.specs.TableSizes.{most_table_bytes}
use Rattle.program_shapes.specs.Kept.{IsKeptSource, AreKeptAlone}
use Rattle.program_shapes.specs.Sources.{fields_in}
use Rattle.program_shapes.proofs.OwnNames.{own_is_ascii}
use Rattle.asl_tables.specs.declared.compile.Style.{Style}
use Rattle.asl_tables.specs.declared.compile.ReadBlock.{ReadBlock}
use Rattle.asl_tables.specs.Reads.{IsReadOf, AreReadOf, IsRightRead, AreRightReads}
use Rattle.block_outcomes.specs.declared.outcome.Class.TheVariants as class
use Rattle.block_outcomes.specs.declared.outcome.Compiled.{Compiled}
use Rattle.block_outcomes.specs.declared.outcome.Compiled.TheVariants.{Made}
use Rattle.block_outcomes.specs.declared.outcome.Outcome.{Outcome}
use Rattle.block_outcomes.specs.declared.outcome.Outcome.TheVariants.{Done, Faulty}
use Rattle.block_outcomes.specs.declared.outcome.Sorted.{Sorted}
use Rattle.asl_tables.specs.Compiled.{own_in, told_in, others_in, unlowered_in, noted_in, all_noted, unless_wrong, of_table, written_in, cut_in, too_long, outcome_in, outcomes_in, of_items, HaveAsciiNames, HasAsciiNames}
use Rattle.block_checks.specs.Told.{with_others}
use Rattle.block_outcomes.specs.Joined.{unless_refused, unless_noted, of_class, tables_among, later_errors, joined}
use Rattle.block_outcomes.specs.Sorted.{AreSorted}

-- ---- one item more

outcomes_more : (style : Style) (lines : List Line) (raws : List Raw) (r : Raw) → outcomes_in style lines (raws ++ r ∷ []) ≡ outcomes_in style lines raws ++ outcome_in style lines (alone r) ∷ []
outcomes_more style lines [] r = refl
outcomes_more style lines (x ∷ xs) r = ap (λ os. outcome_in style lines (alone x) ∷ os) (outcomes_more style lines xs r)

noted_more : (raws : List Raw) (r : Raw) → all_noted (raws ++ r ∷ []) ≡ all_noted raws ++ noted_in (alone r)
noted_more [] r = append-nil (noted_in (alone r))
noted_more (x ∷ xs) r = ap (λ ms. noted_in (alone x) ++ ms) (noted_more xs r) ∙ sym (append_assoc (noted_in (alone x)) (all_noted xs) (noted_in (alone r)))

-- ---- what is read of items

read_more : (items : List Raw) (its : List ReadBlock) (r : Raw) (it : ReadBlock) → AreReadOf items its → IsReadOf r it → AreReadOf (items ++ r ∷ []) (its ++ it ∷ [])
read_more [] [] r it h k = (k, tt)
read_more [] (y ∷ ys) r it h k = absurd h
read_more (x ∷ xs) [] r it h k = absurd h
read_more (x ∷ xs) (y ∷ ys) r it h k = (h.0, read_more xs ys r it h.1 k)

-- The first so many items are read. The blocks of the others are left, the next of them last.
pub record AreRead (items : List Raw) (i : ℕ) (left : List Block) (its : List ReadBlock) : Type 0 where
  pub done : AreReadOf (take i items) its
  pub rest : AreBlocksOf (drop i items) (reverse left)

reverse_twice : {A : Type 0} (xs : List A) → reverse (reverse xs) ≡ xs
reverse_twice [] = refl
reverse_twice (x ∷ xs) = ap reverse (reverse-append (x ∷ []) xs) ∙ reverse-append (reverse xs) (x ∷ []) ∙ ap (λ ys. x ∷ ys) (reverse_twice xs)

pub none_read : (items : List Raw) (blocks left : List Block) (its : List ReadBlock) → left ≡ reverse blocks → its ≡ [] → AreBlocksOf items blocks → AreRead items 0 left its
none_read items blocks left its turned none h = record {
  done = subst (AreReadOf []) (sym none) tt;
  rest = subst (AreBlocksOf items) (sym (ap reverse turned ∙ reverse_twice blocks)) h;
}

-- some block is left for an item
pub some_left : (items : List Raw) (i : ℕ) (d : Raw) (left : List Block) → i < length items → AreBlocksOf (drop i items) (reverse left) → 0 < length left
some_left items i d [] lt h = absurd (subst (λ xs. AreBlocksOf xs []) (drop-cons items i d lt) h)
some_left items i d (block ∷ left) lt h = omega arith

pub next_block : (items : List Raw) (i : ℕ) (d : Raw) (left new : List Block) (block : Block) → i < length items → left ≡ new ++ block ∷ [] → AreBlocksOf (drop i items) (reverse left) → IsBlockOf (alone (get_or items i d)) block × AreBlocksOf (drop (suc i) items) (reverse new)
next_block items i d left new block lt e h =
    subst (AreBlocksOf (get_or items i d ∷ drop (suc i) items)) (ap reverse e ∙ reverse-append new (block ∷ []))
    (subst (λ xs. AreBlocksOf xs (reverse left)) (drop-cons items i d lt) h)

pub one_read : (items : List Raw) (i : ℕ) (d : Raw) (left new : List Block) (block : Block) (its more : List ReadBlock) (it : ReadBlock) → i < length items → left ≡ new ++ block ∷ [] → more ≡ its ++ it ∷ [] → IsReadOf (get_or items i d) it → AreRead items i left its → AreRead items (i + 1) new more
one_read items i d left new block its more it lt e added is h = record {
  done = subst (λ xs. AreReadOf xs more) (sym (take_more items i d lt)) (subst (AreReadOf (take i items ++ get_or items i d ∷ [])) (sym added) (read_more (take i items) its (get_or items i d) it h.done is));
  rest = subst (λ n. AreBlocksOf (drop n items) (reverse new)) (sym (add-one i)) (next_block items i d left new block lt e h.rest).1;
}

pub all_read : (items : List Raw) (i : ℕ) (left : List Block) (its : List ReadBlock) → length items ≤ i → AreRead items i left its → AreReadOf items its
all_read items i left its le h = subst (λ xs. AreReadOf xs its) (take_all i items le) h.done

-- ---- blocks that were read are compiled

-- Some items are compiled, and sorted are their outcomes. The blocks of the others are left, the next of them last.
pub record AreCompiled (style : Style) (lines : List Line) (all : List Raw) (left : List ReadBlock) (outcomes : Sorted) (told : List Message) : Type 0 where
  pub done : List Raw
  pub rest : List Raw
  pub are : all ≡ done ++ rest
  pub reads : AreReadOf rest (reverse left)
  pub kept : AreKeptAlone rest
  pub right : AreRight rest
  pub sorted : AreSorted (outcomes_in style lines done) outcomes
  pub notes : told ≡ all_noted done

pub none_compiled : (style : Style) (lines : List Line) (items : List Raw) (its left : List ReadBlock) (sorted : Sorted) (notes : List Message) → left ≡ reverse its → AreKeptAlone items → AreRight items → AreReadOf items its → AreSorted [] sorted → notes ≡ [] → AreCompiled style lines items left sorted notes
none_compiled style lines items its left sorted notes turned kept right reads s n = record {
  done = [];
  rest = items;
  are = refl;
  reads = subst (AreReadOf items) (sym (ap reverse turned ∙ reverse_twice its)) reads;
  kept = kept;
  right = right;
  sorted = s;
  notes = n;
}

-- all that is left of it is right
pub all_right : (its left : List ReadBlock) → left ≡ reverse its → AreRightReads its → AreRightReads (reverse left)
all_right its left turned h = subst AreRightReads (sym (ap reverse turned ∙ reverse_twice its)) h

pub next_right : (left new : List ReadBlock) (it : ReadBlock) → left ≡ new ++ it ∷ [] → AreRightReads (reverse left) → IsRightRead it × AreRightReads (reverse new)
next_right left new it e h = subst AreRightReads (ap reverse e ∙ reverse-append new (it ∷ [])) h

pub each_right_read : (items : List Raw) (its : List ReadBlock) → AreKeptAlone items → AreRight items → AreReadOf items its → AreRightReads its
each_right_read [] [] kept right reads = tt
each_right_read [] (y ∷ ys) kept right reads = absurd reads
each_right_read (x ∷ xs) [] kept right reads = absurd reads
each_right_read (x ∷ xs) (y ∷ ys) kept right reads = (record { item = x; kept = kept.0; right = right.0; read = reads.0 }, each_right_read xs ys kept.1 right.1 reads.1)

pub one_compiled : (style : Style) (lines : List Line) (all : List Raw) (left new : List ReadBlock) (it : ReadBlock) (sorted next : Sorted) (notes own more : List Message) (made : Outcome) → left ≡ new ++ it ∷ []
    → ((item : Raw) → IsKeptSource (writtens (alone item)) → errors_at (alone item) ≡ [] → IsReadOf item it → made ≡ outcome_in style lines (alone item))
    → ((item : Raw) → IsKeptSource (writtens (alone item)) → errors_at (alone item) ≡ [] → IsReadOf item it → own ≡ noted_in (alone item)) → more ≡ notes ++ own
    → ((outcomes : List Outcome) → AreSorted outcomes sorted → AreSorted (outcomes ++ made ∷ []) next) → AreCompiled style lines all left sorted notes → AreCompiled style lines all new next more
one_compiled style lines all left new it sorted next notes own more made last comes noted added s h =
    by h.rest h.are (subst (AreReadOf h.rest) (ap reverse last ∙ reverse-append new (it ∷ [])) h.reads) h.kept h.right
  where
    by : (rest : List Raw) → all ≡ h.done ++ rest → AreReadOf rest (it ∷ reverse new) → AreKeptAlone rest → AreRight rest → AreCompiled style lines all new next more
    by [] are reads kept right = absurd reads
    by (r ∷ rs) are reads kept right = record {
      done = h.done ++ r ∷ [];
      rest = rs;
      are = are ∙ sym (append_assoc h.done (r ∷ []) rs);
      reads = reads.1;
      kept = kept.1;
      right = right.1;
      sorted = subst (λ os. AreSorted os next) (ap (λ o. outcomes_in style lines h.done ++ o ∷ []) (comes r kept.0 right.0 reads.0) ∙ sym (outcomes_more style lines h.done r)) (s (outcomes_in style lines h.done) h.sorted);
      notes = added ∙ ap (λ ms. ms ++ own) h.notes ∙ ap (λ ms. all_noted h.done ++ ms) (noted r kept.0 right.0 reads.0) ∙ sym (noted_more h.done r);
    }

none_left : (rest : List Raw) → AreReadOf rest [] → rest ≡ []
none_left [] h = refl
none_left (x ∷ xs) h = absurd h

pub all_compiled : (style : Style) (lines : List Line) (all : List Raw) (left : List ReadBlock) (sorted : Sorted) (notes : List Message) → left ≡ [] → AreCompiled style lines all left sorted notes
    → AreSorted (outcomes_in style lines all) sorted × (notes ≡ all_noted all)
all_compiled style lines all left sorted notes none h =
    let empty : h.rest ≡ [] = none_left h.rest (subst (λ xs. AreReadOf h.rest (reverse xs)) none h.reads) in
    let same : h.done ≡ all = sym (h.are ∙ ap (λ xs. h.done ++ xs) empty ∙ append-nil h.done) in
    subst (λ xs. AreSorted (outcomes_in style lines xs) sorted × (notes ≡ all_noted xs)) same (h.sorted, h.notes)

-- ---- the names that blocks state for their files

abbrev HasAsciiName : Outcome → Type 0
HasAsciiName (Done signature own pieces) = IsAscii own
HasAsciiName (Faulty messages) = ⊤

one_ascii : (style : Style) (lines : List Line) (items : List Raw) → errors_at items ≡ [] → IsKeptSource (writtens items) → HasAsciiName (outcome_in style lines items)
one_ascii style lines items e kept = by_names (with_others (told_in items) (others_in items)) (own_is_ascii items e kept)
  where
    place : Place
    place = block_place (writtens items)

    by_length : (c : Bool) → IsAscii (own_in items) → HasAsciiName (if c then Done (fields_in items).signature (own_in items) (cut_in style lines items) else Faulty (too_long place ∷ []))
    by_length true h = h
    by_length false h = tt

    by_lowering : (ms : List Message) → IsAscii (own_in items) → HasAsciiName (unless_wrong ms (of_table place (fields_in items).signature (own_in items) (written_in style items) (cut_in style lines items)))
    by_lowering [] h = by_length (nat_le (length (written_in style items)) most_table_bytes) h
    by_lowering (m ∷ ms) h = tt

    by_names : (ms : List Message) → IsAscii (own_in items) → HasAsciiName (unless_wrong ms (unless_wrong (unlowered_in style items) (of_table place (fields_in items).signature (own_in items) (written_in style items) (cut_in style lines items))))
    by_names [] h = by_lowering (unlowered_in style items) h
    by_names (m ∷ ms) h = tt

each_ascii : (style : Style) (lines : List Line) (raws : List Raw) → AreRight raws → AreKeptAlone raws → HaveAsciiNames (tables_among (outcomes_in style lines raws))
each_ascii style lines [] e k = tt
each_ascii style lines (r ∷ rs) e k = by (outcome_in style lines (alone r)) (one_ascii style lines (alone r) e.0 k.0) (each_ascii style lines rs e.1 k.1)
  where
    by : (o : Outcome) → HasAsciiName o → HaveAsciiNames (tables_among (outcomes_in style lines rs)) → HaveAsciiNames (tables_among (o ∷ outcomes_in style lines rs))
    by (Done signature own pieces) h rest = (h, rest)
    by (Faulty messages) h rest = rest

joined_ascii : (notes : List Message) (os : List Outcome) → HaveAsciiNames (tables_among os) → HasAsciiNames (joined notes os)
joined_ascii notes os h = by (of_class class.Names os) (later_errors os)
  where
    by : (ns ls : List Message) → HasAsciiNames (unless_refused ns (unless_noted ls notes (Made (tables_among os) notes)))
    by [] [] = h
    by [] (l ∷ ls) = tt
    by (n ∷ ns) ls = tt

-- those of a source without errors of its form are ASCII
pub joined_in_ascii : (style : Style) (lines : List Line) (raws : List Raw) → AreRight raws → AreKeptAlone raws → HasAsciiNames (joined (all_noted raws) (outcomes_in style lines raws))
joined_in_ascii style lines raws e k = joined_ascii (all_noted raws) (outcomes_in style lines raws) (each_ascii style lines raws e k)

pub ascii_comes : (r : Result Compiled AllocError) (it : Compiled) → HasAsciiNames it → IfOk r (λ made. made ≡ it) → IfOk r HasAsciiNames
ascii_comes (Ok made) it h e = subst HasAsciiNames (sym e) h
ascii_comes (Err error) it h e = tt

-- a source without errors of its form comes to what its blocks come to
pub items_come : (style : Style) (lines : List Line) (r : Result Compiled AllocError) (raws : List Raw) → source_errors raws ≡ [] → IfOk r (λ it. it ≡ joined (all_noted raws) (outcomes_in style lines raws)) → IfOk r (λ it. it ≡ of_items style lines raws)
items_come style lines (Ok it) raws e h = h ∙ sym (ap (λ es. unless_refused es (joined (all_noted raws) (outcomes_in style lines raws))) e)
items_come style lines (Err error) raws e h = tt
