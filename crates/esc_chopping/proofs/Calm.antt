-- Where no stall touches a stretch of ticks, each tick in it is free, and earlier ones are put off to its front at most.
use Rattle.std.proofs.Common.{◌≡◌, ◌≤◌, ◌<◌, ◌⊎◌, ℕ, List, [], ◌∷◌, refl, ◌∙◌, ap, arith}
use Rattle.std.specs.List.{fold}
use Rattle.std.proofs.lemmas.Bool.Decides.{nat_tests}
use Rattle.esc_base.specs.declared.event.Event.{Event}
use Rattle.esc_base.specs.declared.event.Event.TheVariants as event
use Rattle.esc_base.specs.Trace.{tick_of}
use Rattle.esc_laws.specs.Steps.{stall_end, past_stall, free}
use Rattle.esc_chopping.specs.Stalls.{NoStall}

past_same : (t : ℕ) (e : Event) (a b : ℕ) → (stall_end e ≤ a) ⊎ (b < tick_of e) → a ≤ t → t ≤ b → past_stall t e ≡ t
past_same t (event.Stall at n) a b h l m = grind (arith, nat_tests, h)
past_same t (event.Edge at level) a b h l m = refl
past_same t (event.Comp at level) a b h l m = refl
past_same t (event.Serial at byte) a b h l m = refl

past_low : (t : ℕ) (e : Event) (a b : ℕ) → (stall_end e ≤ a) ⊎ (b < tick_of e) → a ≤ b → t ≤ a → past_stall t e ≤ a
past_low t (event.Stall at n) a b h m l = grind (arith, nat_tests, h)
past_low t (event.Edge at level) a b h m l = l
past_low t (event.Comp at level) a b h m l = l
past_low t (event.Serial at byte) a b h m l = l

same_from : (trace : List Event) (a b t : ℕ) → NoStall a b trace → a ≤ t → t ≤ b → fold past_stall t trace ≡ t
same_from [] a b t n l m = refl
same_from (s ∷ trace) a b t n l m = ap (λ (x : ℕ). fold past_stall x trace) (past_same t s a b n.0 l m) ∙ same_from trace a b t n.1 l m

low_from : (trace : List Event) (a b t : ℕ) → NoStall a b trace → a ≤ b → t ≤ a → fold past_stall t trace ≤ a
low_from [] a b t n m l = l
low_from (s ∷ trace) a b t n m l = low_from trace a b (past_stall t s) n.1 m (past_low t s a b n.0 m l)

pub free_same : (trace : List Event) (a b t : ℕ) → NoStall a b trace → a ≤ t → t ≤ b → free trace t ≡ t
unfolding free
free_same trace a b t n l m = same_from trace a b t n l m

pub free_low : (trace : List Event) (a b t : ℕ) → NoStall a b trace → a ≤ b → t ≤ a → free trace t ≤ a
unfolding free
free_low trace a b t n m l = low_from trace a b t n m l
