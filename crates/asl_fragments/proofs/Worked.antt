-- Lines worked out by computation.
use Rattle.std.proofs.Common.{◌≡◌, true, false, [], ◌∷◌, codes, refl}
use Rattle.asl_fragments.specs.declared.fragment.FragmentKind.TheVariants.{Identifier, Number, Comment, Other}
use Rattle.asl_fragments.specs.Fragments.{fragment_of_slash, fragment_of, fragments_behind, fragments, without_comments, ends_in_comment}

a_line : fragments false (codes "A_1+0xF//b")
    ≡ record { kind = Identifier; text = codes "A_1"; left_open = false } ∷ record { kind = Other; text = codes "+"; left_open = false } ∷ record { kind = Number; text = codes "0xF"; left_open = false }
    ∷ record { kind = Comment; text = codes "//b"; left_open = false } ∷ []
unfolding fragments fragments_behind fragment_of fragment_of_slash
a_line = refl

a_string : without_comments true (codes "*/ \"/*\" /* a */ b") ≡ codes "   \"/*\"         b"
unfolding without_comments fragments fragments_behind fragment_of fragment_of_slash
a_string = refl

not_closed : ends_in_comment false (codes "a /*/") ≡ true
unfolding ends_in_comment fragments fragments_behind fragment_of fragment_of_slash
not_closed = refl

still_open : ends_in_comment true [] ≡ true
unfolding ends_in_comment fragments
still_open = refl
