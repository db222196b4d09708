-- The rows of the examples tell declarations apart, and the types of the examples stand over them.
use Rattle.std.proofs.Common.{◌≡◌, Bool, true, false, cond, Some, None, refl, ap, ◌∙◌, sym, subst}
use Rattle.std.specs.Prelude.{Option, codes}
use Rattle.au_syntax.specs.Parts.{Each}
use Rattle.au_types.proofs.SameLemmas.{place_is}
use Rattle.au_types.specs.declared.headings.Head.{Head}
use Rattle.au_types.specs.declared.types.DeclAt.{DeclAt}
use Rattle.au_types.specs.Rows.{same_place}
use Rattle.au_types.specs.declared.types.Region.TheVariants as regions
use Rattle.au_types.specs.Types.{Meaning, Argument, unit, truth, reads, in_region}
use Rattle.au_type_texts.specs.Examples.{exit_code, exit_code_head, holder, holder_head, rows}
use Rattle.au_type_texts.specs.Examples.{region_parameter, held, examples, Example}
use Rattle.au_type_texts.specs.Told.{is_declared, AreTold, Stands, FitsArgument}

-- what the rows say of a declaration
found : Bool → Bool → Option Head
found first second = cond first (Some exit_code_head) (cond second (Some holder_head) None)

declared : (first second : Bool) (head : Head) → found first second ≡ Some head → is_declared head.text ≡ true
unfolding found
declared true second head e = let same : exit_code_head ≡ head = cc in subst (λ h. is_declared h.text ≡ true) same refl
declared false true head e = let same : holder_head ≡ head = cc in subst (λ h. is_declared h.text ≡ true) same refl
declared false false head e = absurd cc

apart : (a b : DeclAt) (head other : Head) (first second third fourth : Bool)
    → same_place a exit_code ≡ first → same_place a holder ≡ second → same_place b exit_code ≡ third →
    same_place b holder ≡ fourth
    → found first second ≡ Some head → found third fourth ≡ Some other → head.text ≡ other.text → a ≡ b
unfolding found
apart a b head other true second true fourth is_a ha is_b hb ea eb e = place_is a exit_code is_a
    ∙ sym (place_is b exit_code is_b)
apart a b head other false true false true is_a ha is_b hb ea eb e = place_is a holder ha ∙ sym (place_is b holder hb)
apart a b head other true second false true is_a ha is_b hb ea eb e =
    let one : exit_code_head ≡ head = cc in
    let two : holder_head ≡ other = cc in
    let texts : exit_code_head.text ≡ holder_head.text = ap (λ h. h.text) one ∙ e ∙ ap (λ h. h.text) (sym two) in
    absurd cc
apart a b head other false true true fourth is_a ha is_b hb ea eb e =
    let one : holder_head ≡ head = cc in
    let two : exit_code_head ≡ other = cc in
    let texts : holder_head.text ≡ exit_code_head.text = ap (λ h. h.text) one ∙ e ∙ ap (λ h. h.text) (sym two) in
    absurd cc
apart a b head other false false third fourth is_a ha is_b hb ea eb e = absurd cc
apart a b head other first second false false is_a ha is_b hb ea eb e = absurd cc

pub rows_tell : AreTold rows
unfolding found
rows_tell = record {
  declared = λ at head e. declared (same_place at exit_code) (same_place at holder) head e;
  apart = λ a b head other ea eb e. apart a b head other (same_place a exit_code) (same_place a holder)
      (same_place b exit_code) (same_place b holder) refl refl refl refl ea eb e;
}

held_stands : (t : Meaning) (one : Argument) → Stands rows t → FitsArgument rows region_parameter one →
    Stands rows (held t one)
held_stands t one ht h = (refl, (((λ e. absurd cc), ht), (h, tt)))

pub examples_stand : Each (λ (one : Example). Stands rows one.of) examples
examples_stand =
    let once = held_stands unit (in_region regions.Static) tt (refl, tt) in
    let inner = held_stands truth (in_region (regions.Named (codes "S"))) tt (refl, refl) in
    let twice = held_stands (held truth (in_region (regions.Named (codes "S"))))
    (in_region (regions.Named (codes "R"))) inner (refl, refl) in
    let lent = held_stands (reads unit regions.Static) (in_region regions.Anonymous) (tt, tt) (refl, tt) in (
      tt,
      (
        tt,
        (
          tt,
          (
            tt,
            (
              tt,
              (
                tt,
                (
                  refl,
                  ((refl, tt), (once, (twice, ((tt, refl), ((refl, tt), ((lent, refl), tt)))))),
                ),
              ),
            ),
          ),
        ),
      ),
    )
