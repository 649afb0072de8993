-- Lengths that are noted from the last to the first.
use Rattle.std.proofs.Common.{◌⊎◌, inl, inr, ◌≡◌, ℕ, zero, suc, ◌+◌, ◌<◌, ◌≤◌, Bool, true, false, List, [], ◌∷◌, ◌++◌, length, take, get_or, Option, Some, None, Vec, Global, refl, sym, ap, ◌∙◌, subst, arith, append_assoc, append-nil}
use Rattle.std.specs.Prelude.{if◌then◌else◌, IfSome}
use Rattle.std.proofs.lemmas.List.{take_more, length-take-le}
use Rattle.acpi_values.specs.Operators.{Letter}
use Rattle.asl_tree.specs.declared.path.Path.{Path}
use Rattle.asl_tree.specs.declared.term.Op.{Op}
use Rattle.asl_tree.specs.declared.term.Node.{Node}
use Rattle.asl_tree.specs.declared.term.NamedDescriptor.{NamedDescriptor}
use Rattle.asl_tree.specs.declared.term.Term.{Term}
use Rattle.asl_tree.specs.declared.term.Term as D
use Rattle.aml_code.specs.Encoding.{package_length_bytes}
use Rattle.aml_sizes.specs.declared.style.IntegerStyle.{IntegerStyle}
use Rattle.aml_sizes.specs.Sizes.{most_content_bytes}
use Rattle.aml_sizes.specs.Capped.{capped}
use Rattle.aml_sizes.specs.Leaves.{Leaf, leaves_of, first_letter, letters_behind, letter_number, is_first_left_out, stated_count}
use Rattle.aml_sizes.specs.Codes.{letters_of}
use Rattle.aml_sizes.specs.Items.{written_items}
use Rattle.aml_sizes.specs.TermBytes.{is_package, buffer_size, count_bytes, body_part, row_bytes, nodes_bytes}
use Rattle.aml_sizes.specs.Forms.{form_lengths}
use Rattle.aml_sizes.specs.PackageLengths.{package_length, entry_lengths, items_lengths, operand_lengths, count_lengths, body_lengths, front_lengths, term_lengths, row_lengths, nodes_lengths, Noted}
use Rattle.aml_sizes.proofs.Letters.{next_letter}
use Rattle.aml_sizes.proofs.Rows.{args_row, body_row, nodes_in, leaf_number, rows}
use Rattle.aml_sizes.proofs.Counted.{capped_whole}

pub noted_none : (notes : Option (List ℕ)) → Noted [] notes notes
noted_none (Some lengths) = refl
noted_none None = tt

pub noted_both : (first second : List ℕ) (a b c : Option (List ℕ)) → Noted second a b → Noted first b c → Noted (first ++ second) a c
noted_both first second (Some a) (Some b) (Some c) x y = y ∙ ap (λ ls. first ++ ls) x ∙ sym (append_assoc first second a)
noted_both first second None (Some b) (Some c) x y = absurd x
noted_both first second (Some a) None (Some c) x y = absurd y
noted_both first second None None (Some c) x y = absurd y
noted_both first second (Some a) (Some b) None x y = tt
noted_both first second None (Some b) None x y = tt
noted_both first second (Some a) None None x y = tt
noted_both first second None None None x y = tt

pub noted_as : (lengths lengths' : List ℕ) (before now : Option (List ℕ)) → lengths' ≡ lengths → Noted lengths before now → Noted lengths' before now
noted_as lengths lengths' before now e h = subst (λ ls. Noted ls before now) (sym e) h

-- where none are there, none are noted
pub noted_nothing : (lengths lengths' : List ℕ) (before now : Option (List ℕ)) → lengths' ≡ [] → now ≡ before → Noted lengths' before now
noted_nothing lengths lengths' before now e same = subst (λ ls. Noted ls before now) (sym e) (subst (λ n. Noted [] before n) (sym same) (noted_none before))

-- a length that is noted only where it is small is the one that it is then
pub noted_few : (n m : ℕ) (before now : Option (List ℕ)) → Noted (n ∷ []) before now → IfSome now (λ lengths. n ≤ most_content_bytes) → (n ≤ most_content_bytes → n ≡ m) → Noted (m ∷ []) before now
noted_few n m (Some before) (Some now) x few is = x ∙ ap (λ k. k ∷ before) (is few)
noted_few n m None (Some now) x few is = absurd x
noted_few n m (Some before) None x few is = tt
noted_few n m None None x few is = tt

-- the length of a package whose content was counted only so far
pub package_noted : (counted content size whole : ℕ) → counted ≡ capped content → size ≡ length (package_length_bytes counted) → whole ≡ capped (counted + size) → whole ≤ most_content_bytes → whole ≡ package_length content
package_noted counted content size whole ec es ew few =
    let same : counted ≡ content = omega (arith, ec, ew, few) in
    let bytes : length (package_length_bytes counted) ≡ length (package_length_bytes content) = ap (λ n. length (package_length_bytes n)) same in
    omega (arith, same, bytes, es, ew, few)

pub noted_where : (packed : Bool) (lengths : List ℕ) (before now : Option (List ℕ)) → packed ≡ true → Noted lengths before now → Noted (if packed then lengths else []) before now
noted_where true lengths before now e h = h
noted_where false lengths before now e h = absurd (grind arith)

pub none_where : (packed : Bool) (lengths : List ℕ) (notes : Option (List ℕ)) → packed ≡ false → Noted (if packed then lengths else []) notes notes
none_where true lengths notes e = absurd (grind arith)
none_where false lengths notes e = noted_none notes

-- ---- the loop from the last node to the first: what is left to note, and what is noted

abbrev pub Rest : List ℕ → Option (List ℕ) → List ℕ → Option (List ℕ) → Type 0
Rest rest (Some now) whole (Some before) = rest ++ now ≡ whole ++ before
Rest rest (Some now) whole None = ⊥
Rest rest None whole before = Unit {0}

pub rest_begins : (rest whole : List ℕ) (notes : Option (List ℕ)) → rest ≡ whole → Rest rest notes whole notes
rest_begins rest whole (Some lengths) e = ap (λ ls. ls ++ lengths) e
rest_begins rest whole None e = tt

pub rest_next : (front own rest whole : List ℕ) (now now' before : Option (List ℕ)) → rest ≡ front ++ own → Rest rest now whole before → Noted own now now' → Rest front now' whole before
rest_next front own rest whole (Some now) (Some now') (Some before) e h is = ap (λ ls. front ++ ls) is ∙ sym (append_assoc front own now) ∙ ap (λ ls. ls ++ now) (sym e) ∙ h
rest_next front own rest whole (Some now) (Some now') None e h is = absurd h
rest_next front own rest whole None (Some now') (Some before) e h is = absurd is
rest_next front own rest whole None (Some now') None e h is = absurd is
rest_next front own rest whole (Some now) None before e h is = tt
rest_next front own rest whole None None before e h is = tt

pub rest_done : (rest whole : List ℕ) (now before : Option (List ℕ)) → rest ≡ [] → Rest rest now whole before → Noted whole before now
rest_done rest whole (Some now) (Some before) e h = ap (λ ls. ls ++ now) (sym e) ∙ h
rest_done rest whole (Some now) None e h = absurd h
rest_done rest whole None (Some before) e h = tt
rest_done rest whole None None e h = tt

-- ---- the list of a field

items_append : (ns : List Node) (n : Node) → items_lengths (ns ++ n ∷ []) ≡ items_lengths ns ++ entry_lengths n.term
items_append [] n = append-nil (entry_lengths n.term)
items_append (first ∷ ns) n = ap (λ ls. entry_lengths first.term ++ ls) (items_append ns n) ∙ sym (append_assoc (entry_lengths first.term) (items_lengths ns) (entry_lengths n.term))

pub items_more : (ns : List Node) (i left : ℕ) (d : Node) → i + 1 ≡ left → i < length ns → items_lengths (take left ns) ≡ items_lengths (take i ns) ++ entry_lengths (get_or ns i d).term
items_more ns i left d e lt = ap (λ n. items_lengths (take n ns)) (sym e) ∙ ap items_lengths (take_more ns i d lt) ∙ items_append (take i ns) (get_or ns i d)

pub no_items : (ns : List Node) (left : ℕ) → left ≤ 0 → items_lengths (take left ns) ≡ []
no_items ns zero le = refl
no_items ns (suc left) le = absurd (omega (arith, le))

-- ---- terms

content_is : (own size own' whole content : ℕ) → own ≡ capped own' → size ≡ capped whole → capped (own' + capped whole) ≡ capped content → capped (own + size) ≡ capped content
content_is own size own' whole content eo es e = omega (arith, eo, es, e)

module _ (style : IntegerStyle) where
  pub row_is : (letters : List Letter) (m : _) (row : D.Row_of-Node m) → row_lengths style letters row ≡ nodes_lengths style letters (D.items-the_row-Node m row)
  unfolding term_lengths nodes_lengths
  row_is letters m D.end_of-Node = refl
  row_is letters m (D.more_of-Node id place term rest) = ap (λ ls. operand_lengths (first_letter letters) (term_lengths style term) ++ ls) (row_is (letters_behind letters) _ rest)

  nodes_append : (letters : List Letter) (ns : List Node) (n : Node) → nodes_lengths style letters (ns ++ n ∷ []) ≡ nodes_lengths style letters ns ++ operand_lengths (letter_number letters (length ns)) (term_lengths style n.term)
  unfolding nodes_lengths
  nodes_append [] [] n = append-nil _
  nodes_append (letter ∷ letters) [] n = append-nil _
  nodes_append letters (first ∷ ns) n =
      ap (λ ls. operand_lengths (first_letter letters) (term_lengths style first.term) ++ ls) (nodes_append (letters_behind letters) ns n)
      ∙ ap (λ letter. operand_lengths (first_letter letters) (term_lengths style first.term) ++ (nodes_lengths style (letters_behind letters) ns ++ operand_lengths letter (term_lengths style n.term))) (next_letter letters (length ns))
      ∙ sym (append_assoc (operand_lengths (first_letter letters) (term_lengths style first.term)) (nodes_lengths style (letters_behind letters) ns) (operand_lengths (letter_number letters (suc (length ns))) (term_lengths style n.term)))

  pub nodes_more : (letters : List Letter) (ns : List Node) (i left : ℕ) (d : Node) → i + 1 ≡ left → i < length ns → nodes_lengths style letters (take left ns) ≡ nodes_lengths style letters (take i ns) ++ operand_lengths (letter_number letters i) (term_lengths style (get_or ns i d).term)
  nodes_more letters ns i left d e lt =
      let count : length (take i ns) ≡ i = length-take-le i ns (omega arith) in
      ap (λ n. nodes_lengths style letters (take n ns)) (sym e) ∙ ap (nodes_lengths style letters) (take_more ns i d lt) ∙ nodes_append letters (take i ns) (get_or ns i d)
      ∙ ap (λ n. nodes_lengths style letters (take i ns) ++ operand_lengths (letter_number letters n) (term_lengths style (get_or ns i d).term)) count

  pub no_nodes : (letters : List Letter) (ns : List Node) (left : ℕ) → left ≤ 0 → nodes_lengths style letters (take left ns) ≡ []
  unfolding nodes_lengths
  no_nodes letters ns zero le = refl
  no_nodes letters ns (suc left) le = absurd (omega (arith, le))

  -- what holds no nodes has no packages
  abbrev HoldsNone : Term → Type 0
  HoldsNone (D.Form' op shape args shape' body) = ⊥
  HoldsNone (D.Call' path shape args) = ⊥
  HoldsNone _ = Unit {0}

  pub alone_lengths : (t : Term) → HoldsNone t → term_lengths style t ≡ []
  unfolding term_lengths
  alone_lengths (D.Form' op shape args shape' body) h = absurd h
  alone_lengths (D.Call' path shape args) h = absurd h
  alone_lengths _ h = refl

  pub alone_noted : (t t' : Term) (notes : Option (List ℕ)) → t ≡ t' → HoldsNone t' → Noted (term_lengths style t) notes notes
  alone_noted t t' notes e h = noted_nothing [] (term_lengths style t) notes notes (ap (term_lengths style) e ∙ alone_lengths t' h) refl

  -- the elements of the list of a field, where they are terms
  pub entry_noted : (t : Term) (notes : Option (List ℕ)) → (((x : List ℕ) × (x' : List NamedDescriptor) × t ≡ D.Fill x x') ⊎ (((x : List ℕ) × (x' : ℕ) × t ≡ D.Unit x x') ⊎ (((x : ℕ) × t ≡ D.Skip x) ⊎ (((x : ℕ) × t ≡ D.Offset x) ⊎ ((x : ℕ) × (x' : ℕ) × (x'' : Option ℕ) × t ≡ D.Access x x' x''))))) → Noted (term_lengths style t) notes notes
  entry_noted t notes (inl is) = alone_noted t _ notes is.2 tt
  entry_noted t notes (inr (inl is)) = alone_noted t _ notes is.2 tt
  entry_noted t notes (inr (inr (inl is))) = alone_noted t _ notes is.1 tt
  entry_noted t notes (inr (inr (inr (inl is)))) = alone_noted t _ notes is.1 tt
  entry_noted t notes (inr (inr (inr (inr is)))) = alone_noted t _ notes is.3 tt

  pub byte_noted : (t : Term) (notes : Option (List ℕ)) → (((x : ℕ) × t ≡ D.Local x) ⊎ (((x : ℕ) × t ≡ D.Arg x) ⊎ (t ≡ D.Omitted))) → Noted (term_lengths style t) notes notes
  byte_noted t notes (inl is) = alone_noted t _ notes is.1 tt
  byte_noted t notes (inr (inl is)) = alone_noted t _ notes is.1 tt
  byte_noted t notes (inr (inr is)) = alone_noted t _ notes is tt

  pub call_lengths : (path : Path) (args : Vec Node Global) → term_lengths style (D.Call path args) ≡ nodes_lengths style [] args.items
  unfolding term_lengths
  call_lengths path args = let a = args_row (D.Call path args) in row_is [] a.0 a.1 ∙ ap (nodes_lengths style []) (D.items_hidden-the_row-Node-0 args)

  pub form_is : (op : Op) (args body : Vec Node Global) → term_lengths style (D.Form op args body) ≡ form_lengths style op args.items body.items
  unfolding term_lengths
  form_is op args body =
      let a = args_row (D.Form op args body) in
      let b = body_row (D.Form op args body) in
      ap (λ bs. front_lengths style op (leaves_of (nodes_in a)) bs (row_lengths style (letters_of op) a.1) (length (leaves_of (nodes_in b))) (length (body_part style op (leaves_of (nodes_in b)) (row_bytes style [] b.1) (written_items 0 (nodes_in b)))) ++ body_lengths op (row_lengths style [] b.1) (items_lengths (nodes_in b))) (rows style (letters_of op) a.0 a.1)
      ∙ ap (λ ls. front_lengths style op (leaves_of (nodes_in a)) (nodes_bytes style (letters_of op) (nodes_in a)) ls (length (leaves_of (nodes_in b))) (length (body_part style op (leaves_of (nodes_in b)) (row_bytes style [] b.1) (written_items 0 (nodes_in b)))) ++ body_lengths op (row_lengths style [] b.1) (items_lengths (nodes_in b))) (row_is (letters_of op) a.0 a.1)
      ∙ ap (λ bs. front_lengths style op (leaves_of (nodes_in a)) (nodes_bytes style (letters_of op) (nodes_in a)) (nodes_lengths style (letters_of op) (nodes_in a)) (length (leaves_of (nodes_in b))) (length (body_part style op (leaves_of (nodes_in b)) bs (written_items 0 (nodes_in b)))) ++ body_lengths op (row_lengths style [] b.1) (items_lengths (nodes_in b))) (rows style [] b.0 b.1)
      ∙ ap (λ ls. front_lengths style op (leaves_of (nodes_in a)) (nodes_bytes style (letters_of op) (nodes_in a)) (nodes_lengths style (letters_of op) (nodes_in a)) (length (leaves_of (nodes_in b))) (length (body_part style op (leaves_of (nodes_in b)) (nodes_bytes style [] (nodes_in b)) (written_items 0 (nodes_in b)))) ++ body_lengths op ls (items_lengths (nodes_in b))) (row_is [] b.0 b.1)
      ∙ ap (λ ns. form_lengths style op ns (nodes_in b)) (D.items_hidden-the_row-Node-0 args)
      ∙ ap (form_lengths style op args.items) (D.items_hidden-the_row-Node-0 body)

  -- what is noted of forms
  pub call_noted : (path : Path) (args : Vec Node Global) (term : Term) (nodes : List Node) (before now : Option (List ℕ)) → term ≡ D.Call path args → nodes ≡ args.items → Noted (nodes_lengths style [] nodes) before now → Noted (term_lengths style term) before now
  call_noted path args term nodes before now et en h =
      noted_as (nodes_lengths style [] nodes) (term_lengths style term) before now (ap (term_lengths style) et ∙ call_lengths path args ∙ ap (nodes_lengths style []) (sym en)) h

  pub form_noted : (op : Op) (args body : Vec Node Global) (term : Term) (arg_nodes body_nodes : List Node) (before now : Option (List ℕ)) → term ≡ D.Form op args body → arg_nodes ≡ args.items → body_nodes ≡ body.items → Noted (form_lengths style op arg_nodes body_nodes) before now → Noted (term_lengths style term) before now
  form_noted op args body term arg_nodes body_nodes before now et ea eb h =
      noted_as (form_lengths style op arg_nodes body_nodes) (term_lengths style term) before now
      (ap (term_lengths style) et ∙ form_is op args body ∙ ap (λ ns. form_lengths style op ns body.items) (sym ea) ∙ ap (form_lengths style op arg_nodes) (sym eb)) h

  -- the lengths of a form's body, and then of its front
  pub ruled_noted : (op : Op) (args body : List Node) (nodes size : ℕ) (before between now : Option (List ℕ)) → nodes ≡ length body → size ≡ capped (length (body_part style op (leaves_of body) (nodes_bytes style [] body) (written_items 0 body)))
      → Noted (body_lengths op (nodes_lengths style [] body) (items_lengths body)) before between
      → ((whole : ℕ) → size ≡ capped whole → Noted (front_lengths style op (leaves_of args) (nodes_bytes style (letters_of op) args) (nodes_lengths style (letters_of op) args) nodes whole) between now) → Noted (form_lengths style op args body) before now
  ruled_noted op args body nodes size before between now en es inside front =
      let whole = length (body_part style op (leaves_of body) (nodes_bytes style [] body) (written_items 0 body)) in
      let own = λ (n : ℕ). front_lengths style op (leaves_of args) (nodes_bytes style (letters_of op) args) (nodes_lengths style (letters_of op) args) n whole in
      let rest = body_lengths op (nodes_lengths style [] body) (items_lengths body) in
      noted_as (own nodes ++ rest) (form_lengths style op args body) before now (ap (λ n. own n ++ rest) (leaf_number body ∙ sym en)) (noted_both (own nodes) rest before between now inside (front whole es))

  pub headed_noted : (op : Op) (letters : List Letter) (args : List Node) (packed : Bool) (own body whole : ℕ) (before between now : Option (List ℕ)) → letters ≡ letters_of op → packed ≡ is_package op → own ≡ capped (length (nodes_bytes style letters args)) → body ≡ capped whole → Noted (nodes_lengths style letters args) before between
      → ((content : ℕ) → capped (own + body) ≡ capped content → Noted (if packed then package_length content ∷ [] else []) between now) → Noted ((if is_package op then package_length (length (nodes_bytes style (letters_of op) args) + whole) ∷ [] else []) ++ nodes_lengths style (letters_of op) args) before now
  headed_noted op letters args packed own body whole before between now el ep eo ebody inside front =
      let here = λ (p : Bool) (ls : List Letter). (if p then package_length (length (nodes_bytes style ls args) + whole) ∷ [] else []) ++ nodes_lengths style ls args in
      let content = length (nodes_bytes style letters args) + whole in
      noted_as (here packed letters) (here (is_package op) (letters_of op)) before now (ap (λ p. here p (letters_of op)) (sym ep) ∙ ap (here packed) (sym el))
      (noted_both (if packed then package_length content ∷ [] else []) (nodes_lengths style letters args) before between now inside (front content (omega (arith, eo, ebody))))

  pub buffer_noted : (args : List Leaf) (bytes : List ℕ) (lengths : List ℕ) (size own whole : ℕ) (before between now : Option (List ℕ)) → size ≡ capped whole → own ≡ capped (length (buffer_size style args size bytes)) → Noted (if is_first_left_out args then [] else lengths) before between
      → ((content : ℕ) → capped (own + size) ≡ capped content → Noted (package_length content ∷ []) between now) → Noted (package_length (length (buffer_size style args whole bytes) + whole) ∷ (if is_first_left_out args then [] else lengths)) before now
  buffer_noted args bytes lengths size own whole before between now es eo inside front =
      let f = λ (n : ℕ). length (buffer_size style args n bytes) in
      let own_is : own ≡ capped (f (capped whole)) = eo ∙ ap (λ n. capped (f n)) es in
      let both : capped (f (capped whole) + capped whole) ≡ capped (f whole + whole) = capped_whole f whole in
      noted_both (package_length (f whole + whole) ∷ []) (if is_first_left_out args then [] else lengths) before between now inside (front (f whole + whole) (content_is own size (f (capped whole)) whole (f whole + whole) own_is es both))

  pub package_is_noted : (args : List Leaf) (bytes lengths : List ℕ) (count : Option ℕ) (elements size own whole : ℕ) (before between now : Option (List ℕ)) → count ≡ stated_count args elements → size ≡ capped whole → own ≡ capped (length (count_bytes style count bytes)) → Noted (count_lengths count lengths) before between
      → ((content : ℕ) → capped (own + size) ≡ capped content → Noted (package_length content ∷ []) between now) → Noted (package_length (length (count_bytes style (stated_count args elements) bytes) + whole) ∷ count_lengths (stated_count args elements) lengths) before now
  package_is_noted args bytes lengths count elements size own whole before between now ec es eo inside front =
      let here = λ (c : Option ℕ). package_length (length (count_bytes style c bytes) + whole) ∷ count_lengths c lengths in
      noted_as (here count) (here (stated_count args elements)) before now (ap here (sym ec))
      (noted_both (package_length (length (count_bytes style count bytes) + whole) ∷ []) (count_lengths count lengths) before between now inside (front (length (count_bytes style count bytes) + whole) (omega (arith, eo, es))))

-- all that is noted where nothing was
pub all_noted : (lengths now : List ℕ) (notes : Option (List ℕ)) → Noted lengths (Some []) notes → notes ≡ Some now → now ≡ lengths
all_noted lengths now notes h e = let told : Noted lengths (Some []) (Some now) = subst (Noted lengths (Some [])) e h in told ∙ append-nil lengths
