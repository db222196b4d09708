-- What a touch says of the mentions of a variable in a step.
use Rattle.std.proofs.Common.{◌≡◌, ℕ, ◌+◌, ◌≤◌, ◌==◌, Bool, true, false, ◌||◌, ◌&&◌, [], ◌∷◌, refl, sym, ap}
use Rattle.std.proofs.Common.{subst, ◌∙◌, arith, List, if◌then◌else◌}
use Rattle.std.specs.Str.{bytes_eq}
use Rattle.std.proofs.lemmas.Bool.{or_left, and_from}
use Rattle.au_base.proofs.NumberLemmas.{sum_none}
use Rattle.au_syntax.specs.declared.types.Access.{Access}
use Rattle.au_syntax.specs.declared.types.Access.TheVariants as access
use Rattle.au_syntax.specs.declared.expressions.BorrowMode.{BorrowMode}
use Rattle.au_syntax.specs.declared.expressions.BorrowMode.TheVariants as modes
use Rattle.au_syntax.specs.Names.{Placed}
use Rattle.au_syntax.specs.Expressions.{number, negative, text, truth, nil, path, arrow, call, named_call}
use Rattle.au_syntax.specs.Expressions.{parenthesized, dereference, borrow, borrow_part, binary, negation}
use Rattle.au_syntax.specs.Expressions.{typed, choice, no_expressions, expressions, no_arguments, arguments}
use Rattle.au_syntax.specs.Plain.{Bytes, PlainExpression, PlainExpressions, PlainArguments}
use Rattle.au_lives.specs.Mentions.{Counts, counts, unmentioned, plus, borrowed_by, mentioned_with}
use Rattle.au_lives.specs.Mentions.{is_variable, may_skip, counts_in, counts_in_all, counts_in_arguments}
use Rattle.au_lives.specs.Mentions.{is_kept, keeps_parts, keeps_parts_of_all, keeps_parts_of_arguments}
use Rattle.au_lives.specs.Mentions as mentions
use Rattle.au_lives.specs.Lives.{Hold, unlent, read_lent, write_lent, hidden}
use Rattle.au_lives.specs.Lives as lives
use Rattle.au_lives.proofs.FreeLemmas.{none_borrowed}
use Rattle.au_clearing.specs.Touches.{Touch, Fits, Untouched, Quiet, Written, Consumed, Broken, both, worse}
use Rattle.au_clearing.specs.Touches.{kept, behind_spent, lent, unless_hidden, alone, borrowed, touched}
use Rattle.au_clearing.specs.Touches.{touched_in_all, touched_in_arguments}

-- touches in order, the worst last
abbrev pub rank : Touch → ℕ
rank Untouched = 0
rank Quiet = 1
rank Written = 2
rank Consumed = 3
rank Broken = 4

pub two : (a b m : ℕ) → (a ≤ m) × (b ≤ m) → (n : ℕ) → m ≤ n → (a ≤ n) × (b ≤ n)
two a b m h n le = (omega (arith, h.0, le), omega (arith, h.1, le))

pub worse_rank : (s t : Touch) → (rank s ≤ rank (worse s t)) × (rank t ≤ rank (worse s t))
worse_rank Untouched t = (omega arith, omega arith)
worse_rank Quiet Untouched = (omega arith, omega arith)
worse_rank Quiet Quiet = (omega arith, omega arith)
worse_rank Quiet Written = (omega arith, omega arith)
worse_rank Quiet Consumed = (omega arith, omega arith)
worse_rank Quiet Broken = (omega arith, omega arith)
worse_rank Written Untouched = (omega arith, omega arith)
worse_rank Written Quiet = (omega arith, omega arith)
worse_rank Written Written = (omega arith, omega arith)
worse_rank Written Consumed = (omega arith, omega arith)
worse_rank Written Broken = (omega arith, omega arith)
worse_rank Consumed Untouched = (omega arith, omega arith)
worse_rank Consumed Quiet = (omega arith, omega arith)
worse_rank Consumed Written = (omega arith, omega arith)
worse_rank Consumed Consumed = (omega arith, omega arith)
worse_rank Consumed Broken = (omega arith, omega arith)
worse_rank Broken Untouched = (omega arith, omega arith)
worse_rank Broken Quiet = (omega arith, omega arith)
worse_rank Broken Written = (omega arith, omega arith)
worse_rank Broken Consumed = (omega arith, omega arith)
worse_rank Broken Broken = (omega arith, omega arith)

pub both_rank : (s t : Touch) → (rank s ≤ rank (both s t)) × (rank t ≤ rank (both s t))
both_rank Untouched t = (omega arith, omega arith)
both_rank Quiet Untouched = (omega arith, omega arith)
both_rank Quiet Quiet = (omega arith, omega arith)
both_rank Quiet Written = (omega arith, omega arith)
both_rank Quiet Consumed = (omega arith, omega arith)
both_rank Quiet Broken = (omega arith, omega arith)
both_rank Written Untouched = (omega arith, omega arith)
both_rank Written Quiet = (omega arith, omega arith)
both_rank Written Written = (omega arith, omega arith)
both_rank Written Consumed = (omega arith, omega arith)
both_rank Written Broken = (omega arith, omega arith)
both_rank Consumed Untouched = (omega arith, omega arith)
both_rank Consumed Quiet = (omega arith, omega arith)
both_rank Consumed Written = (omega arith, omega arith)
both_rank Consumed Consumed = (omega arith, omega arith)
both_rank Consumed Broken = (omega arith, omega arith)
both_rank Broken Untouched = (omega arith, omega arith)
both_rank Broken Quiet = (omega arith, omega arith)
both_rank Broken Written = (omega arith, omega arith)
both_rank Broken Consumed = (omega arith, omega arith)
both_rank Broken Broken = (omega arith, omega arith)

-- nothing worse than no touch
pub rank_none : (t : Touch) → rank t ≤ 0 → t ≡ Untouched
rank_none Untouched h = refl
rank_none Quiet h = absurd (omega (arith, h))
rank_none Written h = absurd (omega (arith, h))
rank_none Consumed h = absurd (omega (arith, h))
rank_none Broken h = absurd (omega (arith, h))

-- behind a step that may have consumed the variable, nothing touches it
pub behind_rank : (s : Bool) (t : Touch) → rank t ≤ rank (behind_spent s t)
behind_rank false t = omega arith
behind_rank true Untouched = omega arith
behind_rank true Quiet = omega arith
behind_rank true Written = omega arith
behind_rank true Consumed = omega arith
behind_rank true Broken = omega arith

pub behind_none : (s : Bool) (t : Touch) → s ≡ true → rank (behind_spent s t) ≤ 3 → t ≡ Untouched
behind_none true Untouched e h = refl
behind_none true Quiet e h = absurd (omega (arith, h))
behind_none true Written e h = absurd (omega (arith, h))
behind_none true Consumed e h = absurd (omega (arith, h))
behind_none true Broken e h = absurd (omega (arith, h))
behind_none false t e h = absurd (cc)

-- what is kept, isn't consumed
pub kept_rank : (t : Touch) → rank (kept t) ≤ 3 → rank t ≤ 2
kept_rank Untouched h = omega arith
kept_rank Quiet h = omega arith
kept_rank Written h = omega arith
kept_rank Consumed h = absurd (omega (arith, h))
kept_rank Broken h = absurd (omega (arith, h))

pub kept_above : (t : Touch) → rank t ≤ rank (kept t)
kept_above Untouched = omega arith
kept_above Quiet = omega arith
kept_above Written = omega arith
kept_above Consumed = omega arith
kept_above Broken = omega arith

pub kept_none : (t : Touch) → kept t ≡ Untouched → t ≡ Untouched
kept_none Untouched h = refl
kept_none Quiet h = h
kept_none Written h = h
kept_none Consumed h = let e : 4 ≡ 0 = ap rank h in absurd (omega (arith, e))
kept_none Broken h = h

pub lent_rank : (a : Access) (t : Touch) → rank t ≤ rank (lent a t)
lent_rank access.Read Untouched = omega arith
lent_rank access.Read Quiet = omega arith
lent_rank access.Read Written = omega arith
lent_rank access.Read Consumed = omega arith
lent_rank access.Read Broken = omega arith
lent_rank access.Write Untouched = omega arith
lent_rank access.Write Quiet = omega arith
lent_rank access.Write Written = omega arith
lent_rank access.Write Consumed = omega arith
lent_rank access.Write Broken = omega arith

same_counts : {a b c d e f g h : ℕ} → a ≡ e → b ≡ f → c ≡ g → d ≡ h → counts a b c d ≡ counts e f g h
same_counts p q r s = cc

none_left : (k l : Counts) → k ≡ unmentioned → plus k l ≡ l
none_left k l h =
    ap (λ k. plus k l) h ∙ same_counts (omega arith) (omega arith) (omega arith) (omega arith)

none_right : (k l : Counts) → l ≡ unmentioned → plus k l ≡ k
none_right k l h =
    ap (plus k) h ∙ same_counts (omega arith) (omega arith) (omega arith) (omega arith)

pub fits_both : (s t : Touch) (k l : Counts) → Fits s k → Fits t l → Fits (both s t) (plus k l)
fits_both Untouched t k l f g = subst (Fits t) (sym (none_left k l f)) g
fits_both Quiet Untouched k l f g = subst (Fits Quiet) (sym (none_right k l g)) f
fits_both Quiet Quiet k l f g = (omega (arith, f.0, g.0), omega (arith, f.1, g.1))
fits_both Quiet Written k l f g = tt
fits_both Quiet Consumed k l f g = tt
fits_both Quiet Broken k l f g = tt
fits_both Written Untouched k l f g = subst (Fits Written) (sym (none_right k l g)) f
fits_both Written Quiet k l f g = tt
fits_both Written Written k l f g = tt
fits_both Written Consumed k l f g = tt
fits_both Written Broken k l f g = tt
fits_both Consumed Untouched k l f g = subst (Fits Consumed) (sym (none_right k l g)) f
fits_both Consumed Quiet k l f g = tt
fits_both Consumed Written k l f g = tt
fits_both Consumed Consumed k l f g = tt
fits_both Consumed Broken k l f g = tt
fits_both Broken Untouched k l f g = tt
fits_both Broken Quiet k l f g = tt
fits_both Broken Written k l f g = tt
fits_both Broken Consumed k l f g = tt
fits_both Broken Broken k l f g = tt

pub fits_if : (b : Bool) (t : Touch) (k : Counts) → Fits t k →
    Fits (if b then t else Untouched) (if b then k else unmentioned)
fits_if true t k f = f
fits_if false t k f = refl

pub fits_hidden : (h : Hold) (t : Touch) (k : Counts) → Fits t k →
    Fits (unless_hidden h t) (lives.unless_hidden h k)
fits_hidden unlent t k f = f
fits_hidden read_lent t k f = f
fits_hidden write_lent t k f = f
fits_hidden hidden t k f = refl

alone_fits : (free part : Bool) (fields : List (Placed Bytes)) →
    Fits (alone free part fields) (mentioned_with free fields)
alone_fits true true [] = (refl, refl)
alone_fits true false [] = (refl, refl)
alone_fits false true [] = tt
alone_fits false false [] = refl
alone_fits true true (f ∷ fs) = (refl, refl)
alone_fits true false (f ∷ fs) = (refl, refl)
alone_fits false true (f ∷ fs) = (refl, refl)
alone_fits false false (f ∷ fs) = (refl, refl)

borrow_fits : (mode : BorrowMode) → Fits (borrowed mode) (borrowed_by mode)
borrow_fits modes.Read = (refl, refl)
borrow_fits modes.Write = refl
borrow_fits modes.Reborrow = refl

module _ (x : Bytes) where
  mutual
    -- what an expression does to x says how it mentions x
    pub touched_fits : (free part : Bool) (e : PlainExpression) →
        Fits (touched x free part e) (counts_in x free e)
    touched_fits free part (number node literal) = refl
    touched_fits free part (negative node literal) = refl
    touched_fits free part (text node bytes) = refl
    touched_fits free part (truth node value) = refl
    touched_fits free part (nil node) = refl
    touched_fits free part (path node name fields) =
        fits_if (bytes_eq name.name x) (alone free part fields) (mentioned_with free fields)
        (alone_fits free part fields)
    touched_fits free part (arrow node name fields) =
        fits_if (bytes_eq name.name x) Quiet mentions.one_look (refl, refl)
    touched_fits free part (call node name args note) = touched_all_fits free part args
    touched_fits free part (named_call node name args note) = touched_arguments_fits free part args
    touched_fits free part (parenthesized node e) = touched_fits free part e
    touched_fits free part (dereference node e) = touched_fits (free || is_variable e) part e
    touched_fits free part (borrow node mode name) =
        fits_if (bytes_eq name.name x) (borrowed mode) (borrowed_by mode) (borrow_fits mode)
    touched_fits free part (borrow_part node name fields) =
        fits_if (bytes_eq name.name x) Quiet mentions.one_look (refl, refl)
    touched_fits free part (binary node operator a b) =
        fits_both (touched x free part a) (touched x free (part || may_skip operator) b) (counts_in x free a)
        (counts_in x free b) (touched_fits free part a) (touched_fits free (part || may_skip operator) b)
    touched_fits free part (negation node e) = touched_fits free part e
    touched_fits free part (typed node e t) = touched_fits free part e
    touched_fits free part (choice node c a b) =
        fits_both (touched x free part c) (both (touched x free true a) (touched x free true b))
        (counts_in x free c) (plus (counts_in x free a) (counts_in x free b)) (touched_fits free part c)
        (fits_both (touched x free true a) (touched x free true b) (counts_in x free a) (counts_in x free b)
        (touched_fits free true a) (touched_fits free true b))

    touched_all_fits : (free part : Bool) (es : PlainExpressions) →
        Fits (touched_in_all x free part es) (counts_in_all x free es)
    touched_all_fits free part no_expressions = refl
    touched_all_fits free part (expressions e rest) =
        fits_both (touched x free part e) (touched_in_all x free part rest) (counts_in x free e)
        (counts_in_all x free rest) (touched_fits free part e) (touched_all_fits free part rest)

    touched_arguments_fits : (free part : Bool) (es : PlainArguments) →
        Fits (touched_in_arguments x free part es) (counts_in_arguments x free es)
    touched_arguments_fits free part no_arguments = refl
    touched_arguments_fits free part (arguments label e rest) =
        fits_both (touched x free part e) (touched_in_arguments x free part rest) (counts_in x free e)
        (counts_in_arguments x free rest) (touched_fits free part e) (touched_arguments_fits free part rest)

-- Parts of expressions that may be left out.

pub zero_is : (n : ℕ) → n ≡ 0 → (n == 0) ≡ true
zero_is n h = ap (λ n. n == 0) h

-- where it may be left out it doesn't consume, and in no part that may be left out
abbrev Parted : Bool → ℕ → Bool → Type 0
Parted part consumed keeps = (part ≡ true → consumed ≡ 0) × (keeps ≡ true)

alone_parted : (free part : Bool) (fields : List (Placed Bytes)) → rank (alone free part fields) ≤ 3 →
    part ≡ true →
    (mentioned_with free fields).consumed ≡ 0
alone_parted true part [] h p = refl
alone_parted false true [] h p = absurd (omega (arith, h))
alone_parted false false [] h p = absurd (cc)
alone_parted true part (f ∷ fs) h p = refl
alone_parted false part (f ∷ fs) h p = refl

if_parted : (b : Bool) (t : Touch) (k : Counts) (part : Bool) → (rank t ≤ 3 → part ≡ true → k.consumed ≡ 0) →
    rank (if b then t else Untouched) ≤ 3 → part ≡ true → (if b then k else unmentioned).consumed ≡ 0
if_parted true t k part f h p = f h p
if_parted false t k part f h p = refl

-- a right side that may be left out
right_parted : (part skips : Bool) (consumed : ℕ) (keeps : Bool) → Parted (part || skips) consumed keeps →
    (if skips then (consumed == 0) else keeps) ≡ true
right_parted true true n keeps p = zero_is n (p.0 refl)
right_parted false true n keeps p = zero_is n (p.0 refl)
right_parted true false n keeps p = p.1
right_parted false false n keeps p = p.1

-- a variable alone has no parts
alone_keeps : (x : Bytes) (free : Bool) (e : PlainExpression) → is_variable e ≡ true →
    keeps_parts x free e ≡ true
alone_keeps x free (number node literal) h = refl
alone_keeps x free (negative node literal) h = refl
alone_keeps x free (text node bytes) h = refl
alone_keeps x free (truth node value) h = refl
alone_keeps x free (nil node) h = refl
alone_keeps x free (path node name fields) h = refl
alone_keeps x free (arrow node name fields) h = refl
alone_keeps x free (call node name args note) h = absurd (cc)
alone_keeps x free (named_call node name args note) h = absurd (cc)
alone_keeps x free (parenthesized node e) h = alone_keeps x free e h
alone_keeps x free (dereference node e) h = absurd (cc)
alone_keeps x free (borrow node mode name) h = refl
alone_keeps x free (borrow_part node name fields) h = refl
alone_keeps x free (binary node operator a b) h = absurd (cc)
alone_keeps x free (negation node e) h = absurd (cc)
alone_keeps x free (typed node e t) h = absurd (cc)
alone_keeps x free (choice node c a b) h = absurd (cc)

looked_keeps : (x : Bytes) (free alone : Bool) (e : PlainExpression) → is_variable e ≡ alone →
    keeps_parts x (free || alone) e ≡ true → keeps_parts x free e ≡ true
looked_keeps x true alone e is h = h
looked_keeps x false false e is h = h
looked_keeps x false true e is h = alone_keeps x false e is

module _ (x : Bytes) where
  mutual
    pub touched_parts : (free part : Bool) (e : PlainExpression) → rank (touched x free part e) ≤ 3 →
        Parted part (counts_in x free e).consumed (keeps_parts x free e)
    touched_parts free part (number node literal) h = ((λ p. refl), refl)
    touched_parts free part (negative node literal) h = ((λ p. refl), refl)
    touched_parts free part (text node bytes) h = ((λ p. refl), refl)
    touched_parts free part (truth node value) h = ((λ p. refl), refl)
    touched_parts free part (nil node) h = ((λ p. refl), refl)
    touched_parts free part (path node name fields) h = (
      if_parted (bytes_eq name.name x) (alone free part fields) (mentioned_with free fields) part
          (alone_parted free part fields) h,
      refl,
    )
    touched_parts free part (arrow node name fields) h =
        (if_parted (bytes_eq name.name x) Quiet mentions.one_look part (λ r p. refl) h, refl)
    touched_parts free part (call node name args note) h = touched_all_parts free part args h
    touched_parts free part (named_call node name args note) h = touched_arguments_parts free part args h
    touched_parts free part (parenthesized node e) h = touched_parts free part e h
    touched_parts free part (dereference node e) h =
        let p = touched_parts (free || is_variable e) part e h in
        (p.0, looked_keeps x free (is_variable e) e refl p.1)
    touched_parts free part (borrow node mode name) h = (
      if_parted (bytes_eq name.name x) (borrowed mode) (borrowed_by mode) part (λ r p. none_borrowed mode) h,
      refl,
    )
    touched_parts free part (borrow_part node name fields) h =
        (if_parted (bytes_eq name.name x) Quiet mentions.one_look part (λ r p. refl) h, refl)
    touched_parts free part (binary node operator a b) h =
        let r = two _ _ _ (both_rank (touched x free part a)
        (touched x free (part || may_skip operator) b)) 3 h in
        let p = touched_parts free part a r.0 in
        let q = touched_parts free (part || may_skip operator) b r.1 in (
          (λ e. sum_none (counts_in x free a).consumed (counts_in x free b).consumed (p.0 e)
              (q.0 (or_left part (may_skip operator) e))),
          and_from (keeps_parts x free a)
              (if may_skip operator then is_kept x free b else keeps_parts x free b)
              p.1
              (right_parted part (may_skip operator) (counts_in x free b).consumed (keeps_parts x free b) q),
        )
    touched_parts free part (negation node e) h = touched_parts free part e h
    touched_parts free part (typed node e t) h = touched_parts free part e h
    touched_parts free part (choice node c a b) h =
        let r = two _ _ _ (both_rank (touched x free part c)
        (both (touched x free true a) (touched x free true b))) 3 h in
        let s = two _ _ _ (both_rank (touched x free true a) (touched x free true b)) 3 r.1 in
        let p = touched_parts free part c r.0 in
        let q = touched_parts free true a s.0 in
        let t = touched_parts free true b s.1 in (
          (λ e. sum_none (counts_in x free c).consumed
              ((counts_in x free a).consumed + (counts_in x free b).consumed) (p.0 e)
              (sum_none (counts_in x free a).consumed (counts_in x free b).consumed (q.0 refl) (t.0 refl))),
          and_from (keeps_parts x free c) (is_kept x free a && is_kept x free b) p.1
              (and_from (is_kept x free a) (is_kept x free b)
              (zero_is (counts_in x free a).consumed (q.0 refl))
              (zero_is (counts_in x free b).consumed (t.0 refl))),
        )

    touched_all_parts : (free part : Bool) (es : PlainExpressions) →
        rank (touched_in_all x free part es) ≤ 3 →
        Parted part (counts_in_all x free es).consumed (keeps_parts_of_all x free es)
    touched_all_parts free part no_expressions h = ((λ p. refl), refl)
    touched_all_parts free part (expressions e rest) h =
        let r = two _ _ _ (both_rank (touched x free part e) (touched_in_all x free part rest)) 3 h in
        let p = touched_parts free part e r.0 in
        let q = touched_all_parts free part rest r.1 in (
          (λ w. sum_none (counts_in x free e).consumed (counts_in_all x free rest).consumed (p.0 w) (q.0 w)),
          and_from (keeps_parts x free e) (keeps_parts_of_all x free rest) p.1 q.1,
        )

    touched_arguments_parts : (free part : Bool) (es : PlainArguments) →
        rank (touched_in_arguments x free part es) ≤ 3 →
        Parted part (counts_in_arguments x free es).consumed (keeps_parts_of_arguments x free es)
    touched_arguments_parts free part no_arguments h = ((λ p. refl), refl)
    touched_arguments_parts free part (arguments label e rest) h =
        let r = two _ _ _ (both_rank (touched x free part e) (touched_in_arguments x free part rest)) 3 h in
        let p = touched_parts free part e r.0 in
        let q = touched_arguments_parts free part rest r.1 in (
          (λ w. sum_none (counts_in x free e).consumed (counts_in_arguments x free rest).consumed (p.0 w)
              (q.0 w)),
          and_from (keeps_parts x free e) (keeps_parts_of_arguments x free rest) p.1 q.1,
        )

-- a step that isn't broken consumes in no part that may be left out
pub parts_kept : (x : Bytes) (free : Bool) (h : Hold) (e : PlainExpression) →
    rank (unless_hidden h (touched x free false e)) ≤ 3 → lives.keeps_in_parts x free h e ≡ true
parts_kept x free unlent e r = (touched_parts x free false e r).1
parts_kept x free read_lent e r = (touched_parts x free false e r).1
parts_kept x free write_lent e r = (touched_parts x free false e r).1
parts_kept x free hidden e r = refl

unspent : (t : Touch) (k : Counts) → Fits t k → rank t ≤ 2 → k.consumed ≡ 0
unspent Untouched k f h = ap (λ k. k.consumed) f
unspent Quiet k f h = f.0
unspent Written k f h = ap (λ k. k.consumed) f
unspent Consumed k f h = absurd (omega (arith, h))
unspent Broken k f h = absurd (omega (arith, h))

-- a step below a consumption doesn't consume
pub step_kept : (x : Bytes) (free : Bool) (h : Hold) (e : PlainExpression) →
    rank (unless_hidden h (touched x free false e)) ≤ 2 → lives.keeps x free h e ≡ true
step_kept x free h e r =
    zero_is (lives.unless_hidden h (counts_in x free e)).consumed
    (unspent (unless_hidden h (touched x free false e)) (lives.unless_hidden h (counts_in x free e))
    (fits_hidden h (touched x free false e) (counts_in x free e) (touched_fits x free false e)) r)
