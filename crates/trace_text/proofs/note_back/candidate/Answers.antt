use Rattle.std.proofs.Common.{◌≡◌, List, ℕ, length, drop, get_or, sym, ◌∙◌, ap}
use Rattle.esc_base.specs.Journal.{time_of}
use Rattle.trace_text.specs.Line.{number_between}
use Rattle.trace_text.specs.NoteRead.{word_at}
use Rattle.trace_text.proofs.NoteBack.{fields_of_note, time_back, read_back}
use Rattle.trace_text.proofs.note_back.candidate.Goals as goal

pub returns-then-letter-ne1-clause-every : goal.returns-then-letter-ne1-clause-every
returns-then-letter-ne1-clause-every c n h e =
    let parts = fields_of_note n c.args.bytes.now h e in
    let first = c.next_word.ensures.word ∙ ap (word_at 0) parts in
    absurd (c.if-letter-ne1.true (ap (λ (l : List ℕ). length l) first))

pub returns-in_err-t-clause-every : goal.returns-in_err-t-clause-every
returns-in_err-t-clause-every c n h e =
    let parts = fields_of_note n c.args.bytes.now h e in
    let rest = c.next_word.ensures.rest ∙ ap (λ (ws : List (List ℕ)). drop 1 ws) parts in
    let time = c.next_word-2.ensures.word ∙ ap (word_at 0) rest in
    let known = sym c.in_err-t.was ∙ c.number_in.ensures.value ∙ ap (number_between 0 4294967295) time ∙ time_back n h in
    cc

pub returns-clause-every : goal.returns-clause-every
returns-clause-every c n h e =
    let parts = fields_of_note n c.args.bytes.now h e in
    let first = c.next_word.ensures.word ∙ ap (word_at 0) parts in
    let rest = c.next_word.ensures.rest ∙ ap (λ (ws : List (List ℕ)). drop 1 ws) parts in
    let time = c.next_word-2.ensures.word ∙ ap (word_at 0) rest in
    let known = sym c.in_ok-t.was ∙ c.number_in.ensures.value ∙ ap (number_between 0 4294967295) time ∙ time_back n h in
    let rest-2 = c.next_word-2.ensures.rest ∙ ap (λ (ws : List (List ℕ)). drop 1 ws) rest in
    let rest-3 = c.next_word-3.ensures.rest ∙ ap (λ (ws : List (List ℕ)). drop 1 ws) rest-2 in
    let rest-4 = c.next_word-4.ensures.rest ∙ ap (λ (ws : List (List ℕ)). drop 1 ws) rest-3 in
    let same : c.in_ok-t.t ≡ time_of n = cc in
    c.note.ensures.note ∙ read_back n h _ _ _ _ _ (ap (λ (l : List ℕ). get_or l 0 0) first) (c.from.ensures ∙ same)
    (c.next_word-3.ensures.word ∙ ap (word_at 0) rest-2) (c.next_word-4.ensures.word ∙ ap (word_at 0) rest-3)
    (c.next_word-5.ensures.word ∙ ap (word_at 0) rest-4)
