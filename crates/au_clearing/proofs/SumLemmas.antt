-- How lists of statements, branches and arms deal with all variables, from the last to the first.
use Rattle.std.proofs.Common.{◌≡◌, ℕ, suc, ◌+◌, ◌-◌, ◌<◌, ◌≤◌, Bool, true, false, true≢false, ◌==◌, List, []}
use Rattle.std.proofs.Common.{◌∷◌, ◌++◌, length, drop, map, reverse, get_or, append_assoc, Option, None, Some}
use Rattle.std.proofs.Common.{Result, Ok, Err, IfOk, OnOk, refl, sym, ap, subst, ◌∙◌, arith, drop-cons}
use Rattle.std.proofs.lemmas.List.{append-nil, drop_all, map-append, reverse-append}
use Rattle.au_base.proofs.ListLemmas.{next_item}
use Rattle.au_syntax.specs.Plain.{Bytes, PlainExpression, PlainStatement, PlainStatements, PlainBranches, PlainArms}
use Rattle.au_syntax.specs.Statements.{statements, no_statements, branches, no_branches, arms, no_arms}
use Rattle.au_syntax.specs.Names.{Placed}
use Rattle.au_syntax.specs.Types.{Bound}
use Rattle.au_syntax.specs.declared.phases.Phase.{Ghosts}
use Rattle.au_syntax.specs.declared.names.Bind.{Bind}
use Rattle.au_syntax.specs.declared.statements.Arm.{Arm}
use Rattle.au_clearing.specs.Seen.{seen_bind, seen_binds, seen_arms}
use Rattle.au_lives.specs.Lives.{Hold, unlent, read_lent, write_lent, hidden, held_from}
use Rattle.au_syntax.specs.declared.types.Access.{Access}
use Rattle.au_lives.specs.Paths.{declared, declared_by, bound_name, bound_names, lent}
use Rattle.au_lives.specs.Scopes.{Scope, scope, scopes, scopes_after, scopes_inside, scopes_of_branches}
use Rattle.au_lives.specs.Scopes.{scopes_of_arms, bound_over}
use Rattle.au_clearing.specs.declared.dealings.Dealing.{Dealing}
use Rattle.au_clearing.specs.declared.dealings.Dealings.{Dealings}
use Rattle.au_clearing.specs.declared.dealings.Life.{Life}
use Rattle.au_clearing.specs.declared.deals.Deals.{Deals}
use Rattle.au_clearing.specs.Touches.{Touch, Untouched, Quiet, Written, Consumed, Broken, touched_at}
use Rattle.au_clearing.specs.Dealings.{nothing, once, sum, cased, chain, fork, turns, lend_named, deal}
use Rattle.au_clearing.specs.Dealings.{deal_block, deal_branches, deal_arms, returns_in, returns_in_block}
use Rattle.au_clearing.specs.Dealings.{returns_in_branches, returns_in_arms, life_of}
use Rattle.au_clearing.specs.Deals.{seen_at, or_rest, or_alike, Sums, SumsBlock, SumsStatement, Piles}
use Rattle.au_clearing.specs.Tables.{find}
use Rattle.au_clearing.proofs.CombiningLemmas.{loan_seen}
use Rattle.au_clearing.proofs.ItemLemmas.{item_before}

-- Piles.

pub piles_none : (p : List Life) → Piles [] p p
piles_none p = refl

pub piles_then : (a b : List Scope) (p q r : List Life) → Piles b p q → Piles a q r → Piles (a ++ b) p r
piles_then a b p q r g h =
    h ∙ ap (λ l. map life_of a ++ l) g ∙ sym (append_assoc (map life_of a) (map life_of b) (reverse p))
    ∙ ap (λ l. l ++ reverse p) (sym (map-append life_of a b))

-- the variables of one more item, before those of the items behind it
pub piles_before : {A : Type 0} (over : List A → List Scope) (own : A → List A → List Scope) →
    ((a : A) (rest : List A) → over (a ∷ rest) ≡ own a rest ++ over rest) → (xs : List A) (left : ℕ) (a : A) →
    a ≡ get_or xs (left - 1) a → 0 < left → left ≤ length xs → (p q r : List Life) →
    Piles (over (drop left xs)) p q → Piles (own a (drop left xs)) q r → Piles (over (drop (left - 1) xs)) p r
piles_before over own more xs left a is some within p q r g h =
    subst (λ s. Piles s p r) (sym (ap over (item_before xs left a is some within) ∙ more a (drop left xs)))
    (piles_then (own a (drop left xs)) (over (drop left xs)) p q r g h)

-- all that lies on a pile where nothing lay before
pub piles_all : (s : List Scope) (p q : List Life) → p ≡ [] → Piles s p q → reverse q ≡ map life_of s
piles_all s p q e h = h ∙ ap (λ l. map life_of s ++ reverse l) e ∙ append-nil (map life_of s)

pub pile_one : (s : Scope) (p q : List Life) (life : Life) → q ≡ p ++ life ∷ [] → life ≡ life_of s →
    Piles (s ∷ []) p q
pile_one s p q life is e =
    ap reverse is ∙ reverse-append p (life ∷ []) ∙ ap (λ one. one ∷ reverse p) e

same_dealings : {a b c d : Dealing} → a ≡ c → b ≡ d →
    ◌≡◌ {A = Dealings} (record { owned = a; free = b }) (record { owned = c; free = d })
same_dealings p q = cc

same_life : {d e : Dealings} {m n : ℕ} → d ≡ e → m ≡ n →
    ◌≡◌ {A = Life} (record { dealings = d; returns = m }) (record { dealings = e; returns = n })
same_life p q = cc

owned_or : (o : Option Dealings) (r : Dealing) → (or_alike o r).owned ≡ or_rest false o r
owned_or None r = refl
owned_or (Some d) r = refl

free_or : (o : Option Dealings) (r : Dealing) → (or_alike o r).free ≡ or_rest true o r
free_or None r = refl
free_or (Some d) r = refl

-- what is known of a variable, by the deals of its scope
pub life_is : (d : Deals) (s : Scope) (name : Bytes) (found : Dealings) (life : Life) → SumsBlock d s.block →
    s.name.name ≡ name → found ≡ or_alike (find name d.named) d.rest →
    life ≡ record { dealings = found; returns = d.returns } → life ≡ life_of s
life_is d s name found life sums same is e =
    e
    ∙ same_life (same_dealings
    (ap (λ f. f.owned) is ∙ owned_or (find name d.named) d.rest
    ∙ ap (λ n. or_rest false (find n d.named) d.rest) (sym same)
    ∙ sums.seen s.name.name false unlent)
    (ap (λ f. f.free) is ∙ free_or (find name d.named) d.rest
    ∙ ap (λ n. or_rest true (find n d.named) d.rest) (sym same)
    ∙ sums.seen s.name.name true unlent))
    sums.returns

-- one more of the names that fields are bound to is forgotten
pub forgotten_bind : {X N T C : Type 0} (g : Ghosts X N T C) (old new : Deals) (binds : List (Bind X N T C)) (i : ℕ)
    (one : Bind X N T C) (name : Bytes) → one ≡ get_or binds i one → i < length binds →
    name ≡ (bound_name (seen_bind g one)).name →
    ((x : Bytes) (free : Bool) (h : Hold) →
    seen_at new x free h ≡ seen_at old x free (held_from x (declared name ∷ []) h)) →
    (x : Bytes) (free : Bool) (h : Hold) →
    seen_at new x free (held_from x (bound_names (seen_binds g (drop (i + 1) binds))) h)
    ≡ seen_at old x free (held_from x (bound_names (seen_binds g (drop i binds))) h)
forgotten_bind g old new binds i one name is within same forgets x free h =
    let rest = held_from x (bound_names (seen_binds g (drop (i + 1) binds))) h in
    forgets x free rest
    ∙ ap (λ n. seen_at old x free (held_from x (declared n ∷ []) rest)) same
    ∙ ap (λ l. seen_at old x free (held_from x (bound_names (seen_binds g l)) h))
    (sym (next_item binds i one is within))

-- Sums.

pub sums_same : (d e : Deals) (f g : Bytes → Bool → Hold → Dealing) (m n : ℕ) → Sums e f m →
    ((x : Bytes) (free : Bool) (h : Hold) → seen_at d x free h ≡ seen_at e x free h) → d.returns ≡ e.returns →
    ((x : Bytes) (free : Bool) (h : Hold) → f x free h ≡ g x free h) → m ≡ n → Sums d g n
sums_same d e f g m n s same returns is k = record {
  seen = λ x free h. same x free h ∙ s.seen x free h ∙ is x free h;
  returns = returns ∙ s.returns ∙ k;
}

same_chain : {m n : ℕ} {d e f g : Dealing} → m ≡ n → d ≡ f → e ≡ g → chain m d e ≡ chain n f g
same_chain p q r = cc

same_fork : {d e f g : Dealing} → d ≡ f → e ≡ g → fork d e ≡ fork f g
same_fork p q = cc

same_sum : {a b c d : ℕ} → a ≡ c → b ≡ d → sum a b ≡ sum c d
same_sum p q = cc

-- a statement and then the rest of its block
pub sums_statement : (own other behind d : Deals) (s : PlainStatement) (more : PlainStatements) →
    Sums own (λ x free h. deal x free s h) (returns_in s) → SumsBlock other more →
    Sums behind (λ x free h. seen_at other x free (held_from x (declared_by s) h)) other.returns →
    Sums d (λ x free h. chain behind.returns (seen_at own x free h) (seen_at behind x free h))
    (sum own.returns behind.returns) → SumsBlock d (statements s more)
sums_statement own other behind d s more one rest forgets chains = record {
  seen = λ x free h.
      chains.seen x free h
      ∙ same_chain (forgets.returns ∙ rest.returns) (one.seen x free h)
      (forgets.seen x free h ∙ rest.seen x free (held_from x (declared_by s) h));
  returns = chains.returns ∙ same_sum one.returns (forgets.returns ∙ rest.returns);
}

-- a branch, and what is done where its test doesn't hold
pub sums_branch : (d behind : Deals) (e : PlainExpression) (b : PlainStatements) (more : PlainBranches)
    (other : Bytes → Bool → Hold → Dealing) (n : ℕ) →
    Sums d (λ x free h. chain (sum (returns_in_block b) behind.returns) (once (touched_at x free h e))
    (fork (deal_block x free b h) (seen_at behind x free h))) (sum (returns_in_block b) behind.returns) →
    Sums behind (λ x free h. deal_branches x free more (other x free h) n h) (returns_in_branches more n) →
    Sums d (λ x free h. deal_branches x free (branches e b more) (other x free h) n h)
    (returns_in_branches (branches e b more) n)
sums_branch d behind e b more other n s rest =
    let total = ap (sum (returns_in_block b)) rest.returns in
    sums_same d d
    (λ x free h. chain (sum (returns_in_block b) behind.returns) (once (touched_at x free h e))
    (fork (deal_block x free b h) (seen_at behind x free h)))
    (λ x free h. deal_branches x free (branches e b more) (other x free h) n h)
    (sum (returns_in_block b) behind.returns) (returns_in_branches (branches e b more) n) s
    (λ x free h. refl) refl
    (λ x free h. same_chain {d = once (touched_at x free h e)} total refl
    (same_fork {d = deal_block x free b h} refl (rest.seen x free h))) total

-- one part or another
pub sums_fork : (d one other : Deals) (f g : Bytes → Bool → Hold → Dealing) (m n : ℕ) → Sums one f m →
    Sums other g n →
    Sums d (λ x free h. fork (seen_at one x free h) (seen_at other x free h)) (sum one.returns other.returns) →
    Sums d (λ x free h. fork (f x free h) (g x free h)) (sum m n)
sums_fork d one other f g m n s r forks = record {
  seen = λ x free h. forks.seen x free h ∙ same_fork (s.seen x free h) (r.seen x free h);
  returns = forks.returns ∙ same_sum s.returns r.returns;
}

pub sums_self : (d : Deals) → Sums d (λ x free h. seen_at d x free h) d.returns
sums_self d = record { seen = λ x free h. refl; returns = refl }

-- the same deals of a part that is said in another way
pub sums_as : (d : Deals) (f g : Bytes → Bool → Hold → Dealing) (n : ℕ) → Sums d f n →
    ((x : Bytes) (free : Bool) (h : Hold) → f x free h ≡ g x free h) → Sums d g n
sums_as d f g n s is = record { seen = λ x free h. s.seen x free h ∙ is x free h; returns = s.returns }

-- a step and then a part
pub sums_step : (d other : Deals) (t : Bytes → Bool → Hold → Dealing) (f : Bytes → Bool → Hold → Dealing) (n : ℕ) →
    Sums other f n →
    Sums d (λ x free h. chain other.returns (t x free h) (seen_at other x free h)) other.returns →
    Sums d (λ x free h. chain n (t x free h) (f x free h)) n
sums_step d other t f n s chains = record {
  seen = λ x free h. chains.seen x free h ∙ same_chain {d = t x free h} s.returns refl (s.seen x free h);
  returns = chains.returns ∙ s.returns;
}

chain_nothing : (t : Touch) → chain 0 (once t) nothing ≡ once t
chain_nothing Untouched = refl
chain_nothing Quiet = refl
chain_nothing Written = refl
chain_nothing Consumed = refl
chain_nothing Broken = refl

-- a step alone
pub sums_alone : (d other : Deals) (t : Bytes → Bool → Hold → Touch) → Sums other (λ x free h. nothing) 0 →
    Sums d (λ x free h. chain other.returns (once (t x free h)) (seen_at other x free h)) other.returns →
    Sums d (λ x free h. once (t x free h)) 0
sums_alone d other t s chains =
    sums_as d (λ x free h. chain 0 (once (t x free h)) nothing) (λ x free h. once (t x free h)) 0
    (sums_step d other (λ x free h. once (t x free h)) (λ x free h. nothing) 0 s chains)
    (λ x free h. chain_nothing (t x free h))

-- the turns of a loop
pub sums_turns : (d body : Deals) (f : Bytes → Bool → Hold → Dealing) (n : ℕ) → Sums body f n →
    Sums d (λ x free h. turns (seen_at body x free h)) body.returns → Sums d (λ x free h. turns (f x free h)) n
sums_turns d body f n s all = record {
  seen = λ x free h. all.seen x free h ∙ ap turns (s.seen x free h);
  returns = all.returns ∙ s.returns;
}

-- a part behind declarations
pub sums_hidden : (d body : Deals) (around : Bytes → Hold → Hold) (f : Bytes → Bool → Hold → Dealing) (n : ℕ) →
    Sums body f n → Sums d (λ x free h. seen_at body x free (around x h)) body.returns →
    Sums d (λ x free h. f x free (around x h)) n
sums_hidden d body around f n s hides = record {
  seen = λ x free h. hides.seen x free h ∙ s.seen x free (around x h);
  returns = hides.returns ∙ s.returns;
}

-- a borrow statement
pub sums_loan : (d behind body : Deals) (reference name : Bytes) (access : Access) (b : PlainStatements) →
    SumsBlock body b →
    Sums behind (λ x free h. seen_at body x free (held_from x (declared reference ∷ []) h)) body.returns →
    Sums d (λ x free h. lend_named x name access h (seen_at behind x free h)) behind.returns →
    Sums d
    (λ x free h. lend_named x name access h
    (deal_block x free b (held_from x (declared reference ∷ lent access name ∷ []) h)))
    (returns_in_block b)
sums_loan d behind body reference name access b s hides lends = record {
  seen = λ x free h.
      lends.seen x free h
      ∙ ap (lend_named x name access h)
      (loan_seen body behind x reference name access free h (hides.seen x free h)
      ∙ s.seen x free (held_from x (declared reference ∷ lent access name ∷ []) h));
  returns = lends.returns ∙ hides.returns ∙ s.returns;
}

-- branches, and what is done where no test holds
pub sums_other : (d other : Deals) (bs : PlainBranches) (f : Bytes → Bool → Hold → Dealing) (n : ℕ) →
    Sums other f n →
    Sums d (λ x free h. deal_branches x free bs (seen_at other x free h) other.returns h)
    (returns_in_branches bs other.returns) →
    Sums d (λ x free h. deal_branches x free bs (f x free h) n h) (returns_in_branches bs n)
sums_other d other bs f n s all = record {
  seen = λ x free h.
      all.seen x free h
      ∙ ap (λ e. deal_branches x free bs e other.returns h) (s.seen x free h)
      ∙ ap (λ k. deal_branches x free bs (f x free h) k h) s.returns;
  returns = all.returns ∙ ap (returns_in_branches bs) s.returns;
}

-- what doesn't depend on a result
pub on_ok_if : {T E P : Type 0} (r : Result T E) → P → OnOk r P
on_ok_if (Ok t) p = p
on_ok_if (Err e) p = tt

-- behind the expression of a case that has arms
pub cased_some : {X N T C : Type 0} (g : Ghosts X N T C) (x : Bytes) (free : Bool) (rows : List (Arm X N T C))
    (d : Dealing) → (length rows == 0) ≡ false → cased x free (seen_arms g rows) d ≡ d
cased_some g x free [] d h = absurd (true≢false h)
cased_some g x free (row ∷ rows) d h = refl

-- the same statement, said in another way
pub said_as : {E : Type 0} (r : Result Deals E) (s t : PlainStatement) → s ≡ t → IfOk r (λ d. SumsStatement d t) →
    IfOk r (λ d. SumsStatement d s)
said_as r s t is h = subst (λ s. IfOk r (λ d. SumsStatement d s)) (sym is) h

pub piled_as : {T E : Type 0} (r : Result T E) (s t : PlainStatement) (p q : List Life) → s ≡ t →
    OnOk r (Piles (scopes_inside t) p q) → OnOk r (Piles (scopes_inside s) p q)
piled_as r s t p q is h = subst (λ s. OnOk r (Piles (scopes_inside s) p q)) (sym is) h
