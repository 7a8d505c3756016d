-- The wrong flashes break the law of saves, each at one of its bytes or at its count.
use Rattle.std.proofs.Common.{◌≡◌, ◌≤◌, ◌<◌, ◌⊎◌, inl, inr, ℕ, ◌+◌, zero, suc, true, false, List, [], ◌∷◌, ◌++◌, length, take, drop, map, Option, Some, refl, sym, ◌∙◌, ap, subst, arith, append-nil}
use Rattle.std.proofs.lemmas.List.{map-append, length-map, length-append, drop_all}
use Rattle.std.proofs.Math.Seq.{take-append_seam, drop-append_seam}
use Rattle.esc_base.specs.declared.note.Note.{Note}
use Rattle.settings_block.specs.declared.settings.Settings.{Settings}
use Rattle.settings_block.specs.Block.{block_of}
use Rattle.settings_block.specs.Settings.{default_settings, applied}
use Rattle.esc_laws.specs.Saves.{after_save, and_places, any_places, erased_places, with_page, settings_at, Holds}
use Rattle.esc_laws.specs.refused.Notes.{acts}
use Rattle.esc_laws.specs.refused.Flash.{ArePages, FlashRefuses}
use Rattle.esc_laws.proofs.Flash.{holds_behind, holds_drop}

-- the last page is another one
page_is : (below page : List ℕ) (new : List (Option ℕ)) → ArePages below page → with_page (map Some (below ++ page)) 31 new ≡ map Some below ++ new
page_is below page new a =
    let front : take 31744 (map Some below ++ map Some page) ≡ map Some below =
    subst (λ (n : ℕ). take n (map Some below ++ map Some page) ≡ map Some below) (length-map below Some ∙ a.below_is)
    (take-append_seam (map Some below) (map Some page)) in
    let all : length (map Some below ++ map Some page) ≤ 32768 = (
    let b = a.below_is in let p = a.page_is in simp (length-append, length-map) (omega arith)) in
    rw (map-append Some below page, front, drop_all 32768 (map Some below ++ map Some page) all, append-nil (map Some below ++ new)) refl

pub done_page : (block : List ℕ) (below page : List ℕ) → ArePages below page
    → after_save 0 block (map Some (below ++ page)) ≡ map Some below ++ and_places (erased_places 1024) block
done_page block below page a =
    let len : length (map Some below) ≡ 31744 = length-map below Some ∙ a.below_is in
    let front : take 31744 (map Some below ++ erased_places 1024) ≡ map Some below =
    subst (λ (n : ℕ). take n (map Some below ++ erased_places 1024) ≡ map Some below) len (take-append_seam (map Some below) (erased_places 1024)) in
    let last : drop 31744 (map Some below ++ erased_places 1024) ≡ erased_places 1024 =
    subst (λ (n : ℕ). drop n (map Some below ++ erased_places 1024) ≡ erased_places 1024) len (drop-append_seam (map Some below) (erased_places 1024)) in
    rw (page_is below page (erased_places 1024) a, front, last) refl

pub spoilt_page : (block : List ℕ) (below page : List ℕ) → ArePages below page
    → after_save 1 block (map Some (below ++ page)) ≡ map Some below ++ any_places 1024
spoilt_page block below page a = page_is below page (any_places 1024) a

-- so this stands in the last page
in_page : (block : List ℕ) (below page after : List ℕ) → ArePages below page → Holds (after_save 0 block (map Some (below ++ page))) (below ++ after)
    → Holds (and_places (erased_places 1024) block) after
in_page block below page after a h =
    holds_behind below (and_places (erased_places 1024) block) after
    (subst (λ (places : List (Option ℕ)). Holds places (below ++ after)) (done_page block below page a) h)

first_byte : (after : List ℕ) → Holds (and_places (erased_places 1024) (block_of default_settings)) (0 ∷ after) → ⊥
unfolding erased_places
first_byte after h = let e = h.0 in absurd (omega arith)

-- a page is 48 bytes of the block and then erased ones
behind_block : (after : List ℕ) → Holds (and_places (erased_places 1024) (block_of default_settings)) (block_of default_settings ++ 0 ∷ after) → ⊥
unfolding erased_places
behind_block after h =
    let e = (holds_drop 48 (and_places (erased_places 1024) (block_of default_settings)) (block_of default_settings ++ 0 ∷ after) h).0 in absurd (omega arith)

another_direction : (after : List ℕ) → Holds (and_places (erased_places 1024) (block_of (settings_at default_settings (acts 100 8 ∷ []))))
    (block_of default_settings ++ after) → ⊥
unfolding erased_places
another_direction after h =
    let e = (holds_drop 17 (and_places (erased_places 1024) (block_of (settings_at default_settings (acts 100 8 ∷ [])))) (block_of default_settings ++ after) h).0 in
    absurd (omega arith)

pub flash_refuses : FlashRefuses
flash_refuses = record {
  save_left_out = λ below page after a f. first_byte after (in_page (block_of default_settings) below page (0 ∷ after) a f.holds);
  page_not_erased = λ below page after a f. behind_block after (in_page (block_of default_settings) below page (block_of default_settings ++ 0 ∷ after) a f.holds);
  settings_as_loaded = λ below page after a f. another_direction after
      (in_page (block_of (settings_at default_settings (acts 100 8 ∷ []))) below page (block_of default_settings ++ after) a f.holds);
  another_page_programmed = λ below page after a f. (let e = f.holds.0 in absurd (omega arith));
  another_page_spoilt = λ below page after a f. (let e = f.holds.0 in absurd (omega arith));
  no_save = λ below page f. (
      let h : Holds (Some 0 ∷ map Some page) (1 ∷ page) = holds_behind below (Some 0 ∷ map Some page) (1 ∷ page)
      (subst (λ (places : List (Option ℕ)). Holds places (below ++ 1 ∷ page)) (map-append Some below (0 ∷ page)) f.holds) in
      let e = h.0 in absurd (omega arith));
  bytes_lost = λ below page notes f. f.holds;
  bytes_from_nowhere = λ below page notes f. f.holds;
  fault_not_counted = λ faults few f. elim f.counted [ inl l ↦ absurd (omega arith) | inr m ↦ absurd (omega arith) ];
  second_fault_not_counted = λ f. elim f.counted [ inl l ↦ absurd (omega arith) | inr m ↦ absurd (omega arith) ];
}
