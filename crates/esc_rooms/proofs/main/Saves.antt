-- What the notes say of the settings, of the orders and of the flash, after more notes.
use Rattle.std.proofs.Common.{◌≡◌, ◌≤◌, ◌⊎◌, inl, inr, ℕ, ◌+◌, suc, zero, Bool, true, false, ◌==◌, ◌||◌, if◌then◌else◌, List, [], ◌∷◌, ◌++◌, length, take, drop, replicate, reverse, bit_and, Option, Some, None, option_and_then, All, refl, sym, ◌∙◌, ap, subst, arith, append-nil, append_assoc}
use Rattle.std.proofs.lemmas.Bool.Decides.{nat_tests}
use Rattle.std.proofs.lemmas.List.{drop_all, length-drop, take-append-drop}
use Rattle.std.proofs.lemmas.List.Elements.{All-nil, All-cons, All-head, All-tail}
use Rattle.std.specs.Option.{option_map}
use Rattle.esc_base.specs.declared.tick.Tick.{Tick}
use Rattle.esc_base.specs.declared.note.Note.{Note}
use Rattle.esc_base.specs.declared.note.Note.TheVariants as note
use Rattle.esc_base.specs.Flash.{Told, and_front, blank, erased, programmed, IsWhole}
use Rattle.esc_base.specs.Outside.{Rose}
use Rattle.esc_base.specs.Numbers.{as_tick}
use Rattle.dshot_commands.specs.declared.act.Act.{Act}
use Rattle.dshot_commands.specs.declared.act.Act.TheVariants.{Beacon, Direction, ThreeD, Save, Extended, Spin}
use Rattle.dshot_commands.specs.Act.{act_of, acting, frames_needed, number_of}
use Rattle.settings_block.specs.declared.block.BlockFault.{BlockFault}
use Rattle.settings_block.specs.declared.settings.Settings.{Settings}
use Rattle.settings_block.specs.declared.stored.Loaded.{Loaded}
use Rattle.settings_block.specs.Settings.{applied, servo_of}
use Rattle.settings_block.specs.Stored.{KeepsBelow}
use Rattle.settings_block.specs.Block.{block_of}
use Rattle.arming.proofs.InOrder.{reverse-push}
use Rattle.esc_core.specs.declared.orders.Orders.{Orders}
use Rattle.esc_core.specs.Orders.{obeyed}
use Rattle.esc_core.specs.Calls.{IsSaved, IsSpoilt}
use Rattle.esc_laws.proofs.Flash.{holds_self, holds_drop, holds_append, holds_any}
use Rattle.esc_laws.specs.Saves.{is_save, after_save, and_places, any_places, changed_by, erased_places, flash_at, refused_at, settings_at, spun_by, FlashFits, Holds, HoldsSaves}
use Rattle.esc_laws.specs.Steps.{first_notes, load_number}
use Rattle.esc_rooms.specs.Tied.{OrdersTied}

-- a note that changes the settings, or whether a save is asked for
abbrev pub changes_orders : Note → Bool
changes_orders (note.Command t c) = true
changes_orders (note.Saved t r) = true
changes_orders (note.Packet t cc kk) = true
changes_orders n = false

-- ---- commands leave what the settings say of the input

changed_input : (o : Option Act) (s : Settings) → ((changed_by o s).input ≡ s.input) × (servo_of (changed_by o s) ≡ servo_of s)
changed_input None s = (refl, refl)
changed_input (Some (Beacon beacon)) s = (refl, refl)
changed_input (Some (Direction side)) s = (refl, refl)
changed_input (Some (ThreeD is_on)) s = (refl, refl)
changed_input (Some Save) s = (refl, refl)
changed_input (Some (Extended is_on)) s = (refl, refl)
changed_input (Some (Spin side)) s = (refl, refl)

pub input_kept : (s : Settings) (back : List Note) → (settings_at s back).input ≡ s.input
input_kept s [] = refl
input_kept s (note.Command t c ∷ back) = (changed_input (act_of c) (settings_at s back)).0 ∙ input_kept s back
input_kept s (n ∷ back) = input_kept s back

pub servo_kept : (s : Settings) (back : List Note) → servo_of (settings_at s back) ≡ servo_of s
servo_kept s [] = refl
servo_kept s (note.Command t c ∷ back) = (changed_input (act_of c) (settings_at s back)).1 ∙ servo_kept s back
servo_kept s (n ∷ back) = servo_kept s back

-- ---- an act that was asked for is the act of its number

some_if : (b : Bool) (a act : Act) → (if b then Some a else None) ≡ Some act → Some a ≡ Some act
some_if true a act e = e
some_if false a act e = absurd (let g = e in cc)

acting_some : (frames : ℕ) (o : Option Act) (act : Act) → option_and_then (λ a. if frames == frames_needed a then Some a else None) o ≡ Some act → o ≡ Some act
acting_some frames None act e = absurd (let g = e in cc)
acting_some frames (Some a) act e = some_if (frames == frames_needed a) a act e

beacon_is : (n beacon : ℕ) → act_of n ≡ Some (Beacon beacon) → n ≡ beacon
beacon_is n beacon e = grind (arith, nat_tests)

named : (n : ℕ) (act : Act) → act_of n ≡ Some act → act_of (number_of act) ≡ Some act
named n (Beacon beacon) e = subst (λ (x : ℕ). act_of x ≡ Some (Beacon beacon)) (beacon_is n beacon e) e
named n (Direction side) e = grind (arith, nat_tests)
named n (ThreeD true) e = refl
named n (ThreeD false) e = refl
named n Save e = refl
named n (Extended true) e = refl
named n (Extended false) e = refl
named n (Spin side) e = grind (arith, nat_tests)

pub acting_named : (frames n : ℕ) (act : Act) → acting frames n ≡ Some act → act_of (number_of act) ≡ Some act
acting_named frames n act e = named n act (acting_some frames (act_of n) act e)

-- ---- the orders are what the notes say

obeyed_settings : (o : Orders) (act : Act) → (obeyed o act).settings ≡ applied o.settings act
obeyed_settings o (Beacon beacon) = refl
obeyed_settings o (Direction side) = refl
obeyed_settings o (ThreeD is_on) = refl
obeyed_settings o Save = refl
obeyed_settings o (Extended is_on) = refl
obeyed_settings o (Spin side) = refl

no_twelve : (n : ℕ) → act_of n ≡ Some (Beacon n) → (n == 12) ≡ false
no_twelve n e = grind (arith, nat_tests)

of_side : (b : Bool) (m n : ℕ) → (m == 12) ≡ false → (n == 12) ≡ false → ((if b then m else n) == 12) ≡ false
of_side true m n e f = e
of_side false m n e f = f

obeyed_save : (o : Orders) (act : Act) → act_of (number_of act) ≡ Some act → (obeyed o act).save_asked ≡ ((number_of act == 12) || o.save_asked)
obeyed_save o (Beacon beacon) e = rw (no_twelve beacon e) refl
obeyed_save o (Direction side) e = rw (of_side (side == 0) 7 8 refl refl) refl
obeyed_save o (ThreeD true) e = refl
obeyed_save o (ThreeD false) e = refl
obeyed_save o Save e = refl
obeyed_save o (Extended true) e = refl
obeyed_save o (Extended false) e = refl
obeyed_save o (Spin side) e = rw (of_side (side == 0) 20 21 refl refl) refl

obeyed_spin : (o : Orders) (act : Act) → (obeyed o act).spin ≡ spun_by (Some act) o.spin
obeyed_spin o (Beacon beacon) = refl
obeyed_spin o (Direction side) = refl
obeyed_spin o (ThreeD is_on) = refl
obeyed_spin o Save = refl
obeyed_spin o (Extended is_on) = refl
obeyed_spin o (Spin side) = refl

pub obeyed_tied : (loaded : Loaded) (o : Orders) (act : Act) (t : Tick) (back : List Note) → act_of (number_of act) ≡ Some act → OrdersTied loaded o back
    → OrdersTied loaded (obeyed o act) (note.Command t (number_of act) ∷ back)
obeyed_tied loaded o act t back e tied = record {
  settings_are = rw (obeyed_settings o act, e) (ap (λ (s : Settings). applied s act) tied.settings_are);
  spin_is = rw (e, obeyed_spin o act) (ap (λ (s : ℕ). spun_by (Some act) s) tied.spin_is);
  save_is = obeyed_save o act e ∙ ap (λ (b : Bool). (number_of act == 12) || b) tied.save_is;
}

-- every other note leaves the settings, and whether a save is asked for
pub orders_other : (loaded : Loaded) (o : Orders) (n : Note) (back : List Note) → changes_orders n ≡ false → OrdersTied loaded o back
    → OrdersTied loaded o (n ∷ back)
orders_other loaded o (note.Command t c) back h tied = absurd (let g = h in cc)
orders_other loaded o (note.Saved t r) back h tied = absurd (let g = h in cc)
orders_other loaded o n back h tied = record { settings_are = tied.settings_are; spin_is = tied.spin_is; save_is = tied.save_is }

pub saved_tied : (loaded : Loaded) (o : Orders) (t : Tick) (r : ℕ) (back : List Note) → OrdersTied loaded o back
    → OrdersTied loaded (record o { save_asked = false }) (note.Saved t r ∷ back)
saved_tied loaded o t r back tied = record { settings_are = tied.settings_are; spin_is = tied.spin_is; save_is = refl }

-- ---- notes other than saves leave what the flash holds, and how many saves it has refused

flash_other : (first : Settings) (cells : List ℕ) (n : Note) (back : List Note) → is_save n ≡ false
    → flash_at first cells (n ∷ back) ≡ flash_at first cells back
flash_other first cells (note.Saved t r) back h = absurd (let g = h in cc)
flash_other first cells n back h = refl

refused_other : (n : Note) (back : List Note) → is_save n ≡ false → refused_at (n ∷ back) ≡ refused_at back
refused_other (note.Saved t r) back h = absurd (let g = h in cc)
refused_other n back h = refl

same_pushes : {X : Type 0} (f : List Note → X) → ((n : Note) (back : List Note) → is_save n ≡ false → f (n ∷ back) ≡ f back) → (notes more : List Note)
    → All (λ n. is_save n ≡ false) more → f (reverse (notes ++ more)) ≡ f (reverse notes)
same_pushes {X} f other notes [] a = ap (λ (l : List Note). f (reverse l)) (append-nil notes)
same_pushes {X} f other notes (n ∷ more) a =
    ap (λ (l : List Note). f (reverse l)) (sym (append_assoc notes (n ∷ []) more))
    ∙ same_pushes f other (notes ++ n ∷ []) more (All-tail (λ n. is_save n ≡ false) n more a)
    ∙ ap f (reverse-push notes n)
    ∙ other n (reverse notes) (All-head (λ n. is_save n ≡ false) n more a)

flash_pushes : (first : Settings) (cells : List ℕ) (notes more : List Note) → All (λ n. is_save n ≡ false) more
    → flash_at first cells (reverse (notes ++ more)) ≡ flash_at first cells (reverse notes)
flash_pushes first cells notes more a = same_pushes (flash_at first cells) (flash_other first cells) notes more a

refused_pushes : (notes more : List Note) → All (λ n. is_save n ≡ false) more → refused_at (reverse (notes ++ more)) ≡ refused_at (reverse notes)
refused_pushes notes more a = same_pushes refused_at refused_other notes more a

-- where two lists of notes give the same places, the flash holds what either says
holds_same : (first : Settings) (cells : Option (List ℕ)) (back back' : List Note) (now : Option (List ℕ))
    → ((c : List ℕ) → flash_at first c back ≡ flash_at first c back')
    → HoldsSaves first cells back now → HoldsSaves first cells back' now
holds_same first None back back' None e h = tt
holds_same first None back back' (Some now) e h = absurd h
holds_same first (Some cells) back back' None e h = absurd h
holds_same first (Some cells) back back' (Some now) e h = subst (λ (places : List (Option ℕ)). Holds places now) (e cells) h

pub fits_pushes : (loaded : Loaded) (first now : Told) (notes more : List Note) → All (λ n. is_save n ≡ false) more → FlashFits loaded first now notes
    → FlashFits loaded first now (notes ++ more)
fits_pushes loaded first now notes more a f = record {
  holds =
      holds_same loaded.settings first.bytes (reverse notes) (reverse (notes ++ more)) now.bytes
      (λ c. sym (flash_pushes loaded.settings c notes more a)) f.holds;
  counted = rw (refused_pushes notes more a) f.counted;
}

-- at the start the flash holds what it held after the load
start_holds : (first : Settings) (cells : Option (List ℕ)) → HoldsSaves first cells [] cells
start_holds first None = tt
start_holds first (Some cells) = holds_self cells

fits_none : (loaded : Loaded) (first : Told) → FlashFits loaded first first []
fits_none loaded first = record { holds = start_holds loaded.settings first.bytes; counted = inl (omega arith) }

pub fits_start : (loaded : Loaded) (first : Told) (notes : List Note) → All (λ n. is_save n ≡ false) notes → FlashFits loaded first first notes
fits_start loaded first notes a = fits_pushes loaded first first [] notes a (fits_none loaded first)

-- the two first notes are no saves
pub first_unsaved : (fault : Option BlockFault) → All (λ n. is_save n ≡ false) (first_notes fault)
first_unsaved fault =
    All-cons (λ n. is_save n ≡ false) (note.Up (as_tick 0) (load_number fault)) (note.Window (as_tick 0) 0 ∷ []) refl
    (All-cons (λ n. is_save n ≡ false) (note.Window (as_tick 0) 0) [] refl (All-nil (λ n. is_save n ≡ false)))

-- ---- parts of bytes stand in the parts of the places

holds_take : (n : ℕ) (places : List (Option ℕ)) (cells : List ℕ) → Holds places cells → Holds (take n places) (take n cells)
holds_take zero places cells h = tt
holds_take (suc n) [] [] h = tt
holds_take (suc n) [] (c ∷ cells) h = absurd h
holds_take (suc n) (p ∷ places) [] h = absurd h
holds_take (suc n) (None ∷ places) (c ∷ cells) h = holds_take n places cells h
holds_take (suc n) (Some byte ∷ places) (c ∷ cells) h = (h.0, holds_take n places cells h.1)

holds_length : (places : List (Option ℕ)) (cells : List ℕ) → Holds places cells → length places ≡ length cells
holds_length [] [] h = refl
holds_length [] (c ∷ cells) h = absurd h
holds_length (p ∷ places) [] h = absurd h
holds_length (None ∷ places) (c ∷ cells) h = ap suc (holds_length places cells h)
holds_length (Some byte ∷ places) (c ∷ cells) h = ap suc (holds_length places cells h.1)

-- a part is changed
holds_part : (at n : ℕ) (places new : List (Option ℕ)) (cells bytes : List ℕ) → Holds places cells → Holds new bytes
    → Holds (take at places ++ new ++ drop (at + n) places) (take at cells ++ bytes ++ drop (at + n) cells)
holds_part at n places new cells bytes h k =
    holds_append (take at places ++ new) (drop (at + n) places) (take at cells ++ bytes) (drop (at + n) cells)
    (holds_append (take at places) new (take at cells) bytes (holds_take at places cells h) k)
    (holds_drop (at + n) places cells h)

-- ---- a save that was done

holds_replicate : (n byte : ℕ) → Holds (replicate n (Some byte)) (replicate n byte)
holds_replicate zero byte = tt
holds_replicate (suc n) byte = (refl, holds_replicate n byte)

holds_erased : (n : ℕ) → Holds (erased_places n) (blank n)
unfolding blank erased_places
holds_erased n = holds_replicate n 255

holds_and : (places : List (Option ℕ)) (cells bytes : List ℕ) → Holds places cells → Holds (and_places places bytes) (and_front cells bytes)
holds_and places cells [] h = h
holds_and [] [] (b ∷ bytes) h = tt
holds_and [] (c ∷ cells) (b ∷ bytes) h = absurd h
holds_and (p ∷ places) [] (b ∷ bytes) h = absurd h
holds_and (None ∷ places) (c ∷ cells) (b ∷ bytes) h = holds_and places cells bytes h
holds_and (Some byte ∷ places) (c ∷ cells) (b ∷ bytes) h = (ap (λ (x : ℕ). bit_and x b) h.0, holds_and places cells bytes h.1)

holds_programmed : (at : ℕ) (places : List (Option ℕ)) (cells bytes : List ℕ) → Holds places cells
    → Holds (take at places ++ and_places (drop at places) bytes) (programmed cells at bytes)
holds_programmed at places cells bytes h =
    holds_append (take at places) (and_places (drop at places) bytes) (take at cells) (and_front (drop at cells) bytes) (holds_take at places cells h)
    (holds_and (drop at places) (drop at cells) bytes (holds_drop at places cells h))

holds_done : (places : List (Option ℕ)) (cells block : List ℕ) → Holds places cells
    → Holds (after_save 0 block places) (programmed (erased cells 31) 31744 block)
holds_done places cells block h =
    holds_programmed 31744 (take 31744 places ++ erased_places 1024 ++ drop 32768 places) (erased cells 31) block
    (holds_part 31744 1024 places (erased_places 1024) cells (blank 1024) h (holds_erased 1024))

done_holds : (first : Settings) (cells : Option (List ℕ)) (back : List Note) (now now' : Option (List ℕ)) (t : Tick) (block : List ℕ)
    → block ≡ block_of (settings_at first back)
    → now' ≡ option_map (λ c. programmed (erased c 31) 31744 block) now → HoldsSaves first cells back now → HoldsSaves first cells (note.Saved t 0 ∷ back) now'
done_holds first None back None None t block b e h = tt
done_holds first None back None (Some now') t block b e h = absurd (let g = e in cc)
done_holds first None back (Some now) now' t block b e h = absurd h
done_holds first (Some cells) back None now' t block b e h = absurd h
done_holds first (Some cells) back (Some now) None t block b e h = absurd (let g = e in cc)
done_holds first (Some cells) back (Some now) (Some now') t block b e h =
    let is : now' ≡ programmed (erased now 31) 31744 block = let g = e in cc in
    subst (λ (x : List ℕ). Holds (after_save 0 x (flash_at first cells back)) now') b (rw is (holds_done (flash_at first cells back) now block h))

-- the count, with no refusal more and with one more
same_counted : (first refused now now' : ℕ) → now ≤ now' → (first + refused ≤ now) ⊎ (18446744073709551615 ≤ now)
    → (first + refused ≤ now') ⊎ (18446744073709551615 ≤ now')
same_counted first refused now now' le (inl l) = inl (omega arith)
same_counted first refused now now' le (inr m) = inr (omega arith)

pub fits_saved : (loaded : Loaded) (first now now' : Told) (notes : List Note) (t : Tick) (block : List ℕ)
    → block ≡ block_of (settings_at loaded.settings (reverse notes)) → IsSaved block now now'
    → FlashFits loaded first now notes → FlashFits loaded first now' (notes ++ note.Saved t 0 ∷ [])
fits_saved loaded first now now' notes t block b s f = record {
  holds = rw (reverse-push notes (note.Saved t 0)) (done_holds loaded.settings first.bytes (reverse notes) now.bytes now'.bytes t block b s.bytes_are f.holds);
  counted = rw (reverse-push notes (note.Saved t 0)) (same_counted first.faults (refused_at (reverse notes)) now.faults now'.faults s.no_fewer f.counted);
}

-- ---- a save that was refused

-- the bytes below the last part are as before, and nothing is behind that part
holds_open : (at n : ℕ) (places : List (Option ℕ)) (cells cells' : List ℕ) → take at cells' ≡ take at cells → length cells ≡ at + n → length cells' ≡ at + n
    → Holds places cells
    → Holds (take at places ++ any_places n ++ drop (at + n) places) cells'
holds_open at n places cells cells' same len len' h =
    let front : Holds (take at places) (take at cells') = subst (Holds (take at places)) (sym same) (holds_take at places cells h) in
    let few : length (drop at cells') ≡ n = simp length-drop (omega arith) in
    let none : drop (at + n) places ≡ [] = (let l = holds_length places cells h in drop_all (at + n) places (omega arith)) in
    let both : Holds (take at places ++ any_places n) (take at cells' ++ drop at cells') = holds_append (take at places) (any_places n) (take at cells')
    (drop at cells') front (holds_any n (drop at cells') few) in
    rw (none, append-nil (take at places ++ any_places n)) (subst (Holds (take at places ++ any_places n)) (take-append-drop at cells') both)

spoilt_holds : (first : Settings) (cells : Option (List ℕ)) (back : List Note) (now now' : Option (List ℕ)) (t : Tick) → KeepsBelow 31744 now now'
    → IsWhole now → IsWhole now'
    → HoldsSaves first cells back now → HoldsSaves first cells (note.Saved t 1 ∷ back) now'
spoilt_holds first None back None None t k w w' h = tt
spoilt_holds first None back None (Some now') t k w w' h = absurd k
spoilt_holds first None back (Some now) now' t k w w' h = absurd h
spoilt_holds first (Some cells) back None now' t k w w' h = absurd h
spoilt_holds first (Some cells) back (Some now) None t k w w' h = absurd k
spoilt_holds first (Some cells) back (Some now) (Some now') t k w w' h = holds_open 31744 1024 (flash_at first cells back) now now' k w w' h

more_counted : (first refused now now' : ℕ) → Rose now now' → (first + refused ≤ now) ⊎ (18446744073709551615 ≤ now)
    → (first + (refused + 1) ≤ now') ⊎ (18446744073709551615 ≤ now')
more_counted first refused now now' (inl l) (inl c) = inl (omega arith)
more_counted first refused now now' (inl l) (inr m) = inr (omega arith)
more_counted first refused now now' (inr r) c = inr (let m = r.0 in let s = r.1 in omega arith)

pub fits_spoilt : (loaded : Loaded) (first now now' : Told) (notes : List Note) (t : Tick) → IsSpoilt now now' → IsWhole now.bytes → IsWhole now'.bytes
    → FlashFits loaded first now notes
    → FlashFits loaded first now' (notes ++ note.Saved t 1 ∷ [])
fits_spoilt loaded first now now' notes t s w w' f = record {
  holds = rw (reverse-push notes (note.Saved t 1)) (spoilt_holds loaded.settings first.bytes (reverse notes) now.bytes now'.bytes t s.below w w' f.holds);
  counted = rw (reverse-push notes (note.Saved t 1)) (more_counted first.faults (refused_at (reverse notes)) now.faults now'.faults s.rose f.counted);
}
