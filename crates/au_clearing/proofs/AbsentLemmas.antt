-- What isn't mentioned isn't touched.
use Rattle.std.proofs.Common.{◌≡◌, ℕ, ◌+◌, ◌==◌, Bool, true, false, not, ◌||◌, ◌&&◌, List, [], ◌∷◌, refl, ap}
use Rattle.std.proofs.Common.{◌∙◌, arith, if◌then◌else◌}
use Rattle.std.proofs.lemmas.Bool.{eqb-true, and_right}
use Rattle.std.specs.Str.{bytes_eq}
use Rattle.au_base.proofs.BoolLemmas.{and_first, and_second}
use Rattle.au_syntax.specs.declared.expressions.BorrowMode.{BorrowMode}
use Rattle.au_syntax.specs.declared.expressions.BorrowMode.TheVariants as modes
use Rattle.au_syntax.specs.declared.types.Access.{Access}
use Rattle.au_syntax.specs.Names.{Placed}
use Rattle.au_syntax.specs.Expressions.{number, negative, text, truth, nil, path, arrow, call, named_call}
use Rattle.au_syntax.specs.Expressions.{parenthesized, dereference, borrow, borrow_part, binary, negation}
use Rattle.au_syntax.specs.Expressions.{typed, choice, no_expressions, expressions, no_arguments, arguments}
use Rattle.au_syntax.specs.Statements.{skip, declare, destructure, assign, assign_through, conditional}
use Rattle.au_syntax.specs.Statements.{conditional_else, case_of, while_loop, for_loop, borrow_in}
use Rattle.au_syntax.specs.Statements.{borrow_typed, discard, return_of, no_statements, statements}
use Rattle.au_syntax.specs.Statements.{no_branches, branches, no_arms, arms}
use Rattle.au_syntax.specs.Plain.{Bytes, PlainExpression, PlainExpressions, PlainArguments, PlainStatement}
use Rattle.au_syntax.specs.Plain.{PlainStatements, PlainBranches, PlainArms}
use Rattle.au_lives.specs.Mentions.{Counts, unmentioned, plus, one_look, borrowed_by, mentioned_with}
use Rattle.au_lives.specs.Mentions.{is_variable, may_skip, counts_in, counts_in_all, counts_in_arguments}
use Rattle.au_lives.specs.Lives.{Hold, unlent, read_lent, write_lent, hidden, held_from, is_untouched}
use Rattle.au_lives.specs.Paths.{lent, declared, declared_by, bound_names, access_of}
use Rattle.au_clearing.specs.Touches.{Touch, Untouched, Quiet, Written, both, worse, kept, is_consumed}
use Rattle.au_clearing.specs.Touches.{behind_spent, unless_hidden, alone, borrowed, touched, touched_in_all}
use Rattle.au_clearing.specs.Touches.{touched_in_arguments, touched_at}
use Rattle.au_clearing.specs.Dealings.{Dealing, nothing, never, once, sum, chain, fork, turns, lend_by}
use Rattle.au_clearing.specs.Dealings.{mention, cased, deal, deal_block, deal_branches, deal_arms}
use Rattle.au_clearing.specs.Dealings.{returns_in_block, returns_in_branches, returns_in_arms}
use Rattle.au_clearing.specs.Absent.{LeavesAlone, absent_in, absent, absent_block, absent_branches}
use Rattle.au_clearing.specs.Absent.{absent_arms, is_other}

-- how often a variable is mentioned
abbrev all : Counts → ℕ
all k = k.consumed + (k.written + (k.read + k.looked))

none_of_all : (k : Counts) → is_untouched k ≡ true → all k ≡ 0
none_of_all k h =
    let more = and_second (k.consumed == 0) ((k.written == 0) && ((k.read == 0) && (k.looked == 0))) h in
    let last = and_second (k.written == 0) ((k.read == 0) && (k.looked == 0)) more in
    let c = eqb-true k.consumed 0
    (and_first (k.consumed == 0) ((k.written == 0) && ((k.read == 0) && (k.looked == 0))) h) in
    let w = eqb-true k.written 0 (and_first (k.written == 0) ((k.read == 0) && (k.looked == 0)) more) in
    let r = eqb-true k.read 0 (and_first (k.read == 0) (k.looked == 0) last) in
    let l = eqb-true k.looked 0 (and_second (k.read == 0) (k.looked == 0) last) in
    omega (arith, c, w, r, l)

-- how often it is mentioned in two parts
abbrev total : Counts → Counts → ℕ
total a b =
    (a.consumed + b.consumed)
    + ((a.written + b.written) + ((a.read + b.read) + (a.looked + b.looked)))

none_of_both : (a b : Counts) → all (plus a b) ≡ 0 → (all a ≡ 0) × (all b ≡ 0)
none_of_both a b h =
    let e : total a b ≡ 0 = h in
    (omega (arith, e), omega (arith, e))

if_none : (b : Bool) (t : Touch) (k : Counts) → all k ≡ 1 → all (if b then k else unmentioned) ≡ 0 →
    (if b then t else Untouched) ≡ Untouched
if_none true t k one h = absurd (omega (arith, one, h))
if_none false t k one h = refl

one_alone : (free : Bool) (fields : List (Placed Bytes)) → all (mentioned_with free fields) ≡ 1
one_alone true [] = refl
one_alone false [] = refl
one_alone true (f ∷ fs) = refl
one_alone false (f ∷ fs) = refl

one_borrowed : (mode : BorrowMode) → all (borrowed_by mode) ≡ 1
one_borrowed modes.Read = refl
one_borrowed modes.Write = refl
one_borrowed modes.Reborrow = refl

both_none : (s t : Touch) → s ≡ Untouched → t ≡ Untouched → both s t ≡ Untouched
both_none s t g h = ap (λ s. both s t) g ∙ h

module _ (x : Bytes) where
  mutual
    untouched : (free part : Bool) (e : PlainExpression) → all (counts_in x free e) ≡ 0 →
        touched x free part e ≡ Untouched
    untouched free part (number node literal) h = refl
    untouched free part (negative node literal) h = refl
    untouched free part (text node bytes) h = refl
    untouched free part (truth node value) h = refl
    untouched free part (nil node) h = refl
    untouched free part (path node name fields) h =
        if_none (bytes_eq name.name x) (alone free part fields) (mentioned_with free fields)
        (one_alone free fields) h
    untouched free part (arrow node name fields) h = if_none (bytes_eq name.name x) Quiet one_look refl h
    untouched free part (call node name args note) h = untouched_all free part args h
    untouched free part (named_call node name args note) h = untouched_arguments free part args h
    untouched free part (parenthesized node e) h = untouched free part e h
    untouched free part (dereference node e) h = untouched (free || is_variable e) part e h
    untouched free part (borrow node mode name) h =
        if_none (bytes_eq name.name x) (borrowed mode) (borrowed_by mode) (one_borrowed mode) h
    untouched free part (borrow_part node name fields) h =
        if_none (bytes_eq name.name x) Quiet one_look refl h
    untouched free part (binary node operator a b) h =
        let k = none_of_both (counts_in x free a) (counts_in x free b) h in
        both_none (touched x free part a) (touched x free (part || may_skip operator) b)
        (untouched free part a k.0) (untouched free (part || may_skip operator) b k.1)
    untouched free part (negation node e) h = untouched free part e h
    untouched free part (typed node e t) h = untouched free part e h
    untouched free part (choice node c a b) h =
        let k = none_of_both (counts_in x free c) (plus (counts_in x free a) (counts_in x free b)) h in
        let l = none_of_both (counts_in x free a) (counts_in x free b) k.1 in
        both_none (touched x free part c) (both (touched x free true a) (touched x free true b))
        (untouched free part c k.0)
        (both_none (touched x free true a) (touched x free true b) (untouched free true a l.0)
        (untouched free true b l.1))

    untouched_all : (free part : Bool) (es : PlainExpressions) → all (counts_in_all x free es) ≡ 0 →
        touched_in_all x free part es ≡ Untouched
    untouched_all free part no_expressions h = refl
    untouched_all free part (expressions e rest) h =
        let k = none_of_both (counts_in x free e) (counts_in_all x free rest) h in
        both_none (touched x free part e) (touched_in_all x free part rest) (untouched free part e k.0)
        (untouched_all free part rest k.1)

    untouched_arguments : (free part : Bool) (es : PlainArguments) → all (counts_in_arguments x free es) ≡ 0 →
        touched_in_arguments x free part es ≡ Untouched
    untouched_arguments free part no_arguments h = refl
    untouched_arguments free part (arguments label e rest) h =
        let k = none_of_both (counts_in x free e) (counts_in_arguments x free rest) h in
        both_none (touched x free part e) (touched_in_arguments x free part rest) (untouched free part e k.0)
        (untouched_arguments free part rest k.1)

hidden_none : (h : Hold) → unless_hidden h Untouched ≡ Untouched
hidden_none unlent = refl
hidden_none read_lent = refl
hidden_none write_lent = refl
hidden_none hidden = refl

-- Parts that are put together.

alone_once : (t : Touch) → t ≡ Untouched → LeavesAlone (once t)
alone_once t h = record { touches = h; spends = ap is_consumed h }

alone_nothing : LeavesAlone nothing
alone_nothing = record { touches = refl; spends = refl }

alone_never : LeavesAlone never
alone_never = record { touches = refl; spends = refl }

alone_chain : (n : ℕ) (d e : Dealing) → LeavesAlone d → LeavesAlone e → LeavesAlone (chain n d e)
alone_chain n d e f g = record {
  touches =
      ap (λ t. worse t (behind_spent d.spends e.touch)) f.touches ∙ ap (λ s. behind_spent s e.touch) f.spends
      ∙ g.touches;
  spends =
      ap (λ s. (s && e.lives) || (d.lives && e.spends)) f.spends ∙ and_right d.lives e.spends g.spends;
}

alone_fork : (d e : Dealing) → LeavesAlone d → LeavesAlone e → LeavesAlone (fork d e)
alone_fork d e f g = record {
  touches = ap (λ t. worse t e.touch) f.touches ∙ g.touches;
  spends = ap (λ s. s || e.spends) f.spends ∙ g.spends;
}

alone_turns : (d : Dealing) → LeavesAlone d → LeavesAlone (turns d)
alone_turns d f = record { touches = ap kept f.touches; spends = refl }

alone_lend : (b : Bool) (a : Access) (h : Hold) (d : Dealing) → not b ≡ true → LeavesAlone d →
    LeavesAlone (lend_by b a h d)
alone_lend true a h d n f = absurd (cc)
alone_lend false a unlent d n f = f
alone_lend false a read_lent d n f = f
alone_lend false a write_lent d n f = f
alone_lend false a hidden d n f = f

module _ (x : Bytes) (free : Bool) where
  abbrev on : Hold → PlainExpression → Dealing
  on h e = once (touched_at x free h e)

  absent_all : (free : Bool) (e : PlainExpression) → absent_in x e ≡ true → all (counts_in x free e) ≡ 0
  absent_all true e a =
      none_of_all (counts_in x true e)
      (and_first (is_untouched (counts_in x true e)) (is_untouched (counts_in x false e)) a)
  absent_all false e a =
      none_of_all (counts_in x false e)
      (and_second (is_untouched (counts_in x true e)) (is_untouched (counts_in x false e)) a)

  untouched_at : (h : Hold) (e : PlainExpression) → absent_in x e ≡ true → touched_at x free h e ≡ Untouched
  untouched_at h e a = ap (unless_hidden h) (untouched x free false e (absent_all free e a)) ∙ hidden_none h

  alone_on : (h : Hold) (e : PlainExpression) → absent_in x e ≡ true → LeavesAlone (on h e)
  alone_on h e a = alone_once (touched_at x free h e) (untouched_at h e a)

  alone_mention : (name : Bytes) (t : Touch) (h : Hold) → is_other x name ≡ true →
      LeavesAlone (mention x free name t h)
  alone_mention name t h o =
      alone_once (unless_hidden h (if bytes_eq name x then t else Untouched)) (by (bytes_eq name x) o)
    where
      by : (b : Bool) → not b ≡ true → unless_hidden h (if b then t else Untouched) ≡ Untouched
      by true o = absurd (cc)
      by false o = hidden_none h

  mutual
    pub left_alone : (s : PlainStatement) (h : Hold) → absent x s ≡ true → LeavesAlone (deal x free s h)
    left_alone (skip at) h a = alone_nothing
    left_alone (declare at binding name t e) h a = alone_on h e a
    left_alone (destructure at binds e) h a = alone_on h e a
    left_alone (assign at name fields e) h a =
        alone_chain 0 (on h e) (mention x free name.name Written h)
        (alone_on h e (and_first (absent_in x e) (is_other x name.name) a))
        (alone_mention name.name Written h (and_second (absent_in x e) (is_other x name.name) a))
    left_alone (assign_through at name fields e) h a =
        alone_chain 0 (on h e) (mention x free name.name Quiet h)
        (alone_on h e (and_first (absent_in x e) (is_other x name.name) a))
        (alone_mention name.name Quiet h (and_second (absent_in x e) (is_other x name.name) a))
    left_alone (conditional at bs) h a = left_alone_branches bs nothing 0 h alone_nothing a
    left_alone (conditional_else at bs b) h a =
        left_alone_branches bs (deal_block x free b h) (returns_in_block b) h
        (left_alone_block b h (and_second (absent_branches x bs) (absent_block x b) a))
        (and_first (absent_branches x bs) (absent_block x b) a)
    left_alone (case_of at e rest) h a =
        alone_chain (returns_in_arms rest) (on h e) (cased x free rest (deal_arms x free rest h))
        (alone_on h e (and_first (absent_in x e) (absent_arms x rest) a))
        (left_alone_cased rest (deal_arms x free rest h)
        (left_alone_arms rest h (and_second (absent_in x e) (absent_arms x rest) a)))
    left_alone (while_loop at e b) h a =
        alone_chain (returns_in_block b) (once (kept (touched_at x free h e))) (turns (deal_block x free b h))
        (alone_once (kept (touched_at x free h e))
        (ap kept (untouched_at h e (and_first (absent_in x e) (absent_block x b) a))))
        (alone_turns (deal_block x free b h)
        (left_alone_block b h (and_second (absent_in x e) (absent_block x b) a)))
    left_alone (for_loop at name y z b) h a =
        let n = returns_in_block b in
        let inner = held_from x (declared name.name ∷ []) h in
        let more = and_second (absent_in x y) (absent_in x z && absent_block x b) a in
        alone_chain n (on h y) (chain n (on h z) (turns (deal_block x free b inner)))
        (alone_on h y (and_first (absent_in x y) (absent_in x z && absent_block x b) a))
        (alone_chain n (on h z) (turns (deal_block x free b inner))
        (alone_on h z (and_first (absent_in x z) (absent_block x b) more))
        (alone_turns (deal_block x free b inner)
        (left_alone_block b inner (and_second (absent_in x z) (absent_block x b) more))))
    left_alone (borrow_in at access y r region b stop) h a =
        let inner = held_from x (declared r.name ∷ lent access y.name ∷ []) h in
        alone_lend (bytes_eq y.name x) access h (deal_block x free b inner)
        (and_first (is_other x y.name) (absent_block x b) a)
        (left_alone_block b inner (and_second (is_other x y.name) (absent_block x b) a))
    left_alone (borrow_typed at r t mode y b stop) h a =
        let inner = held_from x (declared r.name ∷ lent (access_of mode) y.name ∷ []) h in
        alone_lend (bytes_eq y.name x) (access_of mode) h (deal_block x free b inner)
        (and_first (is_other x y.name) (absent_block x b) a)
        (left_alone_block b inner (and_second (is_other x y.name) (absent_block x b) a))
    left_alone (discard at e) h a = alone_on h e a
    left_alone (return_of at e) h a = alone_chain 1 (on h e) never (alone_on h e a) alone_never

    pub left_alone_block : (b : PlainStatements) (h : Hold) → absent_block x b ≡ true →
        LeavesAlone (deal_block x free b h)
    left_alone_block no_statements h a = alone_nothing
    left_alone_block (statements s more) h a =
        let inner = held_from x (declared_by s) h in
        alone_chain (returns_in_block more) (deal x free s h) (deal_block x free more inner)
        (left_alone s h (and_first (absent x s) (absent_block x more) a))
        (left_alone_block more inner (and_second (absent x s) (absent_block x more) a))

    left_alone_branches : (bs : PlainBranches) (other : Dealing) (n : ℕ) (h : Hold) → LeavesAlone other →
        absent_branches x bs ≡ true → LeavesAlone (deal_branches x free bs other n h)
    left_alone_branches no_branches other n h f a = f
    left_alone_branches (branches e b more) other n h f a =
        let behind = and_second (absent_in x e) (absent_block x b && absent_branches x more) a in
        alone_chain (sum (returns_in_block b) (returns_in_branches more n)) (on h e)
        (fork (deal_block x free b h) (deal_branches x free more other n h))
        (alone_on h e (and_first (absent_in x e) (absent_block x b && absent_branches x more) a))
        (alone_fork (deal_block x free b h) (deal_branches x free more other n h)
        (left_alone_block b h (and_first (absent_block x b) (absent_branches x more) behind))
        (left_alone_branches more other n h f
        (and_second (absent_block x b) (absent_branches x more) behind)))

    left_alone_arms : (rest : PlainArms) (h : Hold) → absent_arms x rest ≡ true →
        LeavesAlone (deal_arms x free rest h)
    left_alone_arms no_arms h a = alone_never
    left_alone_arms (arms when' name binds b more) h a =
        let inner = held_from x (bound_names binds) h in
        alone_fork (deal_block x free b inner) (deal_arms x free more h)
        (left_alone_block b inner (and_first (absent_block x b) (absent_arms x more) a))
        (left_alone_arms more h (and_second (absent_block x b) (absent_arms x more) a))

    left_alone_cased : (rest : PlainArms) (d : Dealing) → LeavesAlone d → LeavesAlone (cased x free rest d)
    left_alone_cased no_arms d f = alone_nothing
    left_alone_cased (arms when' name binds b more) d f = f
