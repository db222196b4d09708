-- A run does what joined actions do, where it does what each of them does.
use Rattle.std.proofs.Common.{◌≡◌, ℕ, zero, suc, ◌+◌, ◌*◌, ◌≤◌, Bool, true, false, Option, Some, None, refl}
use Rattle.std.proofs.Common.{sym, subst, ◌∙◌, arith}
use Rattle.std.proofs.Math.Nat.{le_refl}
use Rattle.au_low.specs.declared.instructions.Instr.{Instr}
use Rattle.au_low.specs.Instructions.{act}
use Rattle.au_low.specs.Runs.{exec, fetched}
use Rattle.au_meaning.specs.Ticks.{Out, Action, gives, aborts, cut, no_rule, follows, ticked, needing, where_true}
use Rattle.au_meaning.specs.Worlds.{World}
use Rattle.au_lowered.specs.Sides.{Coding, Names, Slots, Common, Spot, told}
use Rattle.au_lowered.specs.Frames.{Frame, world}
use Rattle.au_lowered.specs.Runs.{at, reached, Leads, CutOff, Aim, aim_at, Given, Sim}
use Rattle.au_lowered.proofs.LeadLemmas.{leads_on, leads_spare, leads_more, leads_to, cut_on}

module _ (by : Coding) (f : Frame by) where
  -- what a run leads to does what an action does
  pub sim_on : {A B : Type 0} {aim : Aim by A B} {s t : Spot} {n m d e : ℕ} (r : Out A)
      → Leads by.code s n (at t) m d → Sim by f aim e t m r → Sim by f aim (d + e) s n r
  sim_on (gives a w l) lead g =
      let x = g.follows in
      record {
        follows = record {
          b = x.b;
          names = x.names;
          slots = x.slots;
          c = x.c;
          is = x.is;
          in_world = x.in_world;
          held = x.held;
          leads = leads_on by.code lead x.leads;
        };
      }
  sim_on (aborts fault w l) lead g =
      record { follows = leads_spare by.code (omega arith) (leads_on by.code lead g.follows) }
  sim_on (cut w) lead g = record { follows = cut_on by lead g.follows }
  sim_on (no_rule w l) lead g = record { follows = tt }

  -- fewer steps to spare
  pub sim_spare : {A B : Type 0} {aim : Aim by A B} {s : Spot} {n d e : ℕ} (r : Out A) → e ≤ d
      → Sim by f aim d s n r → Sim by f aim e s n r
  sim_spare (gives a w l) le g =
      let x = g.follows in
      record {
        follows = record {
          b = x.b;
          names = x.names;
          slots = x.slots;
          c = x.c;
          is = x.is;
          in_world = x.in_world;
          held = x.held;
          leads = leads_spare by.code le x.leads;
        };
      }
  sim_spare (aborts fault w l) le g = record { follows = g.follows }
  sim_spare (cut w) le g = record { follows = g.follows }
  sim_spare (no_rule w l) le g = record { follows = tt }

  -- what gave something
  pub sim_given : {A B : Type 0} (aim : Aim by A B) {s : Spot} {n l e : ℕ} (b : B) (names : Names) (slots :
      Slots)
      (c : Common by) → aim.holds b names slots → Leads by.code s n (aim.target b slots c) l e
      → Sim by f aim e s n (gives (aim.view b) (world by f names c) l)
  sim_given aim b names slots c h lead = record {
    follows = record {
      b = b;
      names = names;
      slots = slots;
      c = c;
      is = refl;
      in_world = refl;
      held = h;
      leads = lead;
    };
  }

  -- where no rule applies
  pub sim_stuck : {A B : Type 0} {aim : Aim by A B} {s : Spot} {n l e : ℕ} {w : World}
      → Sim by f aim e s n (no_rule w l)
  sim_stuck = record { follows = tt }

  -- a run that is cut off where no tick is left
  cut_here : (s : Spot) (w : World) → s.output ≡ w.output → s.left ≡ w.left → s.machine.world.deeds
      ≡ told by w
      → CutOff by s 0 w
  unfolding exec
  cut_here s w output left deeds = record {
    steps = 0;
    least = le_refl 0;
    most = le_refl 0;
    cuts = λ made. let e : made ≡ made + 0 = omega arith in cc;
  }

  -- an action that makes a tick
  pub sim_tick : {A B : Type 0} {aim : Aim by A B} {s : Spot} {e : ℕ} (m : Action A) (w : World) (n : ℕ)
      → s.output ≡ w.output → s.left ≡ w.left → s.machine.world.deeds ≡ told by w
      → ((l : ℕ) → n ≡ suc l → Sim by f aim e s (suc l) (m w l)) → Sim by f aim e s n (ticked m w n)
  unfolding ticked
  sim_tick {s = s} m w zero output left deeds go = record { follows = cut_here s w output left deeds }
  sim_tick m w (suc l) output left deeds go = go l refl

  -- one action and then another
  bound : {A A2 B2 : Type 0} {B : Type 0} (aim : Aim by A B) {aim2 : Aim by A2 B2} {s : Spot} {n l d e : ℕ}
      {a : A} {w : World} (k : A → Action A2)
      → (g : Given by f aim d s n a w l) → Sim by f aim2 e s n (k (aim.view g.b) (world by f g.names g.c) l)
      → Sim by f aim2 e s n (k a w l)
  bound aim {aim2} {s} {n} {l} {d} {e} {a} {w} k g is =
      let in_a = subst (λ x. Sim by f aim2 e s n (k x (world by f g.names g.c) l)) (sym g.is) is in
      subst (λ x. Sim by f aim2 e s n (k a x l)) (sym g.in_world) in_a

  pub sim_bind_more : {A B A2 B2 : Type 0} (view : B → A) (holds : B → Names → Slots → Type 0) (mid : B
      → Slots → Common by → Spot)
      {aim2 : Aim by A2 B2} {s : Spot} {n d e : ℕ} (r : Out A) (k : A → Action A2)
      → Sim by f (aim_at view holds mid) d s n r
      → ((b : B) (names : Names) (slots : Slots) (c : Common by) (l : ℕ) → holds b names slots
      → 8 * l + d ≤ 8 * n
      → Sim by f aim2 e (mid b slots c) l (k (view b) (world by f names c) l))
      → Sim by f aim2 (d + e) s n (follows r k)
  unfolding follows
  sim_bind_more view holds mid {n = n} {d = d} (gives a w l) k g go =
      let x = g.follows in
      let le : 8 * l + d ≤ 8 * n = omega (arith, x.leads.most) in
      bound (aim_at view holds mid) k x (sim_on (k (view x.b) (world by f x.names x.c) l) x.leads (go x.b
      x.names x.slots x.c l x.held le))
  sim_bind_more view holds mid (aborts fault w l) k g go = record { follows = g.follows }
  sim_bind_more view holds mid (cut w) k g go = record { follows = g.follows }
  sim_bind_more view holds mid (no_rule w l) k g go = record { follows = tt }

  pub sim_bind : {A B A2 B2 : Type 0} (view : B → A) (holds : B → Names → Slots → Type 0) (mid : B → Slots
      → Common by → Spot)
      {aim2 : Aim by A2 B2} {s : Spot} {n d e : ℕ} (r : Out A) (k : A → Action A2)
      → Sim by f (aim_at view holds mid) d s n r
      → ((b : B) (names : Names) (slots : Slots) (c : Common by) (l : ℕ) → holds b names slots → l ≤ n
      → Sim by f aim2 e (mid b slots c) l (k (view b) (world by f names c) l))
      → Sim by f aim2 e s n (follows r k)
  sim_bind view holds mid {n = n} r k g go =
      sim_spare (follows r k) (omega arith)
      (sim_bind_more view holds mid r k g (λ b names slots c l h le. go b names slots c l h (omega (
        arith,
        le,
      ))))

  -- what was given is seen in another way
  pub sim_map : {A B A2 B2 : Type 0} (aim : Aim by A B) {aim2 : Aim by A2 B2} {s : Spot} {n d e : ℕ} (r :
      Out A) (k : A → Action A2)
      → Sim by f aim d s n r
      → ((b : B) (names : Names) (slots : Slots) (c : Common by) (l : ℕ) → aim.holds b names slots
      → Leads by.code s n (aim.target b slots c) l d
      → Sim by f aim2 e s n (k (aim.view b) (world by f names c) l))
      → Sim by f aim2 e s n (follows r k)
  unfolding follows
  sim_map aim (gives a w l) k g go =
      let x = g.follows in
      bound aim k x (go x.b x.names x.slots x.c l x.held x.leads)
  sim_map aim (aborts fault w l) k g go = record { follows = g.follows }
  sim_map aim (cut w) k g go = record { follows = g.follows }
  sim_map aim (no_rule w l) k g go = record { follows = tt }

  -- the same action, aimed in another way
  pub sim_aim : {A B : Type 0} (aim aim2 : Aim by A B) {s : Spot} {n d e : ℕ} (r : Out A)
      → Sim by f aim d s n r
      → ((b : B) → aim.view b ≡ aim2.view b)
      → ((b : B) (names : Names) (slots : Slots) → aim.holds b names slots → aim2.holds b names slots)
      → ((b : B) (names : Names) (slots : Slots) (c : Common by) (l : ℕ) → aim.holds b names slots
      → Leads by.code s n (aim.target b slots c) l d → Leads by.code s n (aim2.target b slots c) l e)
      → Sim by f aim2 e s n r
  sim_aim aim aim2 (gives a w l) g views helds leads =
      let x = g.follows in
      record {
        follows = record {
          b = x.b;
          names = x.names;
          slots = x.slots;
          c = x.c;
          is = x.is ∙ views x.b;
          in_world = x.in_world;
          held = helds x.b x.names x.slots x.held;
          leads = leads x.b x.names x.slots x.c l x.held x.leads;
        };
      }
  sim_aim aim aim2 (aborts fault w l) g views helds leads = record { follows = g.follows }
  sim_aim aim aim2 (cut w) g views helds leads = record { follows = g.follows }
  sim_aim aim aim2 (no_rule w l) g views helds leads = record { follows = tt }

  -- an instruction without a tick behind an action
  pub sim_more : {A B : Type 0} (view : B → A) (holds holds2 : B → Names → Slots → Type 0) (mid mid2 : B
      → Slots → Common by → Spot)
      {s : Spot} {n e : ℕ} (r : Out A) (i : B → Instr)
      → ((b : B) (slots : Slots) (c : Common by) → fetched by.code (mid b slots c).machine ≡ Some (i b))
      → ((b : B) (names : Names) (slots : Slots) (c : Common by) → holds b names slots
      → reached (mid b slots c) (act by.code (i b) (mid b slots c).machine) ≡ at (mid2 b slots c))
      → ((b : B) (names : Names) (slots : Slots) → holds b names slots → holds2 b names slots)
      → Sim by f (aim_at view holds mid) (suc e) s n r
      → Sim by f (aim_at view holds2 mid2) e s n r
  sim_more view holds holds2 mid mid2 r i is goes helds g =
      sim_aim (aim_at view holds mid) (aim_at view holds2 mid2) r g (λ b. refl) helds
      (λ b names slots c l h lead. leads_to by.code (goes b names slots c h) (leads_more by.code (i b) (is b
      slots c) lead))

  -- what needs something, and what needs a fact
  pub sim_needing : {X A B : Type 0} {aim : Aim by A B} {e : ℕ} {s : Spot} {n l : ℕ} {w : World} (o : Option
      X) (go : X → Action A)
      → ((x : X) → o ≡ Some x → Sim by f aim e s n (go x w l)) → Sim by f aim e s n (needing o go w l)
  sim_needing None go sim = record { follows = tt }
  sim_needing (Some x) go sim = sim x refl

  pub sim_where : {A B : Type 0} {aim : Aim by A B} {e : ℕ} {s : Spot} {n l : ℕ} {w : World} (b : Bool) (m :
      Action A)
      → (b ≡ true → Sim by f aim e s n (m w l)) → Sim by f aim e s n (where_true b m w l)
  sim_where true m sim = sim refl
  sim_where false m sim = record { follows = tt }
