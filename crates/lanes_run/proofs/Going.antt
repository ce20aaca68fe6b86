-- A part of a run: that it begins, that an event makes it longer, and that two parts make one.
use Prim.Native.Nat.{ℕ, suc, ◌+◌, ◌-◌, ◌*◌, ◌≤◌}
use mathlib.Core.Path.{◌≡◌, refl, sym, ap, ◌∙◌, subst}
use mathlib.Core.Bool.{true}
use mathlib.Core.List.{List, [], ◌++◌}
use native.Mathlib.Omega.{arith}
use native.Mathlib.Numerals.{add-one}
use mathlib.Core.List.{append_assoc}
use lib.ListN.{length}
use Rattle.line.specs.declared.Line.{Line}
use Rattle.line.specs.Line.{Shaped}
use Rattle.line.specs.Sound.{sound}
use Rattle.line.proofs.Facts.{good_of, sound_of}
use Rattle.waitlist.specs.NextLane.{next_lane}
use Rattle.event.specs.Event.{given}
use Rattle.event.specs.ReadWrite.{event_read, read_at}
use Rattle.event.specs.declared.Cursor.{Cursor}
use Rattle.event.specs.declared.Event.{Event}
use Rattle.event.proofs.Lengths.{reads}
use Rattle.steps.specs.Meets.{state_of}
use Rattle.steps.specs.State.{Result, State, leaves}
use Rattle.steps.specs.Step.{call_event}
use Rattle.steps.specs.declared.Answer.{Answer}
use Rattle.steps.proofs.Keeps.{GoodState, keeps}
use Rattle.steps.proofs.Cases.{steps}
use Rattle.printout.specs.Print.{answer_line, answer_lines, end_line}
use Rattle.printout.specs.Run.{Ran, answered, run_on}
use Rattle.printout.proofs.Runs.{run_event}
use Rattle.number_text.specs.Stored.{Stored}
use Rattle.number_text.proofs.Stores.{and_then}
use Rattle.answer_text.specs.Printing.{most_line}
use Rattle.lanes_run.specs.Parts.{Going, text_of}

-- what a sound line has
pub good_state : {sheet : List ℕ} {x₀ : State} {out₀ : List ℕ} {from so_far first : ℕ} {line : Line} {book out : List ℕ} {at len number : ℕ}
    → Going sheet x₀ out₀ from so_far first line book out at len number → GoodState (state_of line book)
good_state {sheet} {x₀} {out₀} {from} {so_far} {first} {line} {book} G = good_of line (length book) G.shaped G.is_sound

pub starts : (sheet : List ℕ) (line : Line) (book out : List ℕ) (at len number : ℕ) → Shaped line → sound line (length book) ≡ true → at ≤ length sheet → number ≤ at → len ≤ most_line * at
    → Going sheet (state_of line book) out at len number line book out at len number
starts sheet line book out at len number shaped ok inside numbered short =
    record {
      shaped = shaped;
      is_sound = ok;
      inside = inside;
      numbered = numbered;
      short = short;
      text = [];
      stored = record { bytes = refl; ends = omega arith };
      rest = refl;
      after = refl;
      book_length = refl;
      out_length = refl;
    }

-- one part of a run after another
pub joined : {sheet : List ℕ} {x₀ : State} {out₀ : List ℕ} {from so_far first : ℕ} {line₁ : Line} {book₁ out₁ : List ℕ} {at₁ len₁ number₁ : ℕ} {line₂ : Line} {book₂ out₂ : List ℕ} {at₂ len₂ number₂ : ℕ}
    → Going sheet x₀ out₀ from so_far first line₁ book₁ out₁ at₁ len₁ number₁ → Going sheet (state_of line₁ book₁) out₁ at₁ len₁ number₁ line₂ book₂ out₂ at₂ len₂ number₂
    → Going sheet x₀ out₀ from so_far first line₂ book₂ out₂ at₂ len₂ number₂
joined G H =
    record {
      shaped = H.shaped;
      is_sound = H.is_sound;
      inside = H.inside;
      numbered = H.numbered;
      short = H.short;
      text = G.text ++ H.text;
      stored = and_then G.stored H.stored;
      rest = append_assoc G.text H.text _ ∙ ap (λ (t : List ℕ). G.text ++ t) H.rest ∙ G.rest;
      after = H.after ∙ G.after;
      book_length = H.book_length ∙ G.book_length;
      out_length = H.out_length ∙ G.out_length;
    }

-- a text with one line more
one_more : (k : ℕ) (a : Answer) (r : Ran) → text_of k (answered a r) ≡ answer_line k a ++ text_of (k + 1) r
unfolding answer_lines
one_more k a r = rw (add-one k, append_assoc (answer_line k a) (answer_lines (suc k) r.answers) (end_line r.after))

module _ (sheet : List ℕ) (x₀ : State) (out₀ : List ℕ) (from so_far first : ℕ) (line : Line) (book out : List ℕ) (at len number : ℕ)
    (G : Going sheet x₀ out₀ from so_far first line book out at len number) where
  abbrev x : State
  x = state_of line book

  -- an event, with its answer and what it leaves
  module _ (e : Event) (next : Cursor) (q : read_at sheet at ≡ event_read e next) (a : Answer) (line' : Line) (book' : List ℕ) (called : call_event x e ≡ leaves a line' book') where
    abbrev later : Ran
    later = run_on (length sheet - (number + 1)) (state_of line' book') sheet next.at

    left : length sheet - number ≡ suc (length sheet - (number + 1))
    left = let r = reads sheet at e next q in omega (arith, G.numbered, r.longer, r.within)

    ran : run_on (length sheet - number) x sheet at ≡ answered a later
    ran = rw left (run_event x sheet at (length sheet - (number + 1)) e next q G.is_sound (reads sheet at e next q).listed ∙ rw called)

    pub good_after : GoodState (state_of line' book')
    good_after = subst (λ (r : Result). GoodState r.after) called (keeps (good_state G) (steps next_lane x (given e)))

    pub goes_on : Shaped line' → (out' : List ℕ) (len' : ℕ) → Stored (answer_line number a) out len out' len' → len' ≤ len + most_line → length book' ≡ length book → length out' ≡ length out
        → (at' : ℕ) → at' ≡ next.at → Going sheet x₀ out₀ from so_far first line' book' out' at' len' (number + 1)
    goes_on shaped out' len' stored short same-book same_out at' on =
        let r = reads sheet at e next q in
        subst (λ (n : ℕ). Going sheet x₀ out₀ from so_far first line' book' out' n len' (number + 1)) (sym on)
        (record {
          shaped = shaped;
          is_sound = sound_of line' (length book') good_after;
          inside = r.within;
          numbered = omega (arith, G.numbered, r.longer);
          short = omega (arith, G.short, r.longer);
          text = G.text ++ answer_line number a;
          stored = and_then G.stored stored;
          rest =
              append_assoc G.text (answer_line number a) _
              ∙ ap (λ (t : List ℕ). G.text ++ t) (sym (ap (text_of number) ran ∙ one_more number a later))
              ∙ G.rest;
          after = sym (ap (λ (t : Ran). t.after) ran) ∙ G.after;
          book_length = same-book ∙ G.book_length;
          out_length = same_out ∙ G.out_length;
        })
