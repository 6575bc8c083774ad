-- What is promised of a call, from the way in which it ended.
use Rattle.std.proofs.Common.{◌≡◌, ◌≢◌, ◌<◌, ℕ, List, Option, Some, None, arith, refl, sym, ◌∙◌, subst, inl, inr}
use Rattle.std.specs.Prelude.{◌⊎◌, []}
use Rattle.cmd_tree.specs.declared.limits.TheConstants.{MAX_FILE_BYTES}
use Rattle.replay.specs.Probes.{View}
use Rattle.count_sum.specs.declared.counts.Basis.{Basis}
use Rattle.net_text.proofs.CommandLine.{AreRead}
use Rattle.di_top.specs.declared.outcome.Outcome.{Outcome}
use Rattle.di_top.specs.declared.outcome.Outcome.TheVariants.{Done, Usage, WriteFault, NoMemory}
use Rattle.di_top.specs.Requests.{Request, Compile, files_of}
use Rattle.di_top.specs.Calls.{Reading, Change, Quiet, Tells, Failed, Unchanged, Gained, GainedFront}
use Rattle.di_top.specs.CommandFiles.{IsAdmittedText, IsSuited}
use Rattle.di_top.specs.CompileForm.{Compiles, CompileAdmits}
use Rattle.di_top.specs.Outcomes.{FormGives, Gives, Admits}
use Rattle.di_top.specs.Plans.{IsStop}
use Rattle.di_top.specs.Say.{Wording, say_line, by_line}
use Rattle.di_top.specs.Ends.{Spoke, Spoken, Broken, Ends, Finished, Stopped, Cut, Finishes, Halts}
use Rattle.di_top.specs.Promised.{Promise, Said, CutLine, CanRise}
use Rattle.di_top.specs.Headline.{Faultless, Headline, Appended}
use Rattle.di_top.proofs.Loads.{loaded_whole, some_same}
use Rattle.di_top.proofs.FormAnswers.{gives_admitted, one_answer, admits_told, admits_gives}
use Rattle.di_grammar.proofs.FairnessLaws.{weave_rules}
use Rattle.di_io.proofs.Puts.{front_whole}

stop_not_done : (o : Outcome) → IsStop o → o ≢ Done
stop_not_done o s e = let P : Outcome → Type 0 = IsStop in subst P e s

stop_not_fault : (o : Outcome) → IsStop o → o ≢ WriteFault
stop_not_fault o s e = let P : Outcome → Type 0 = IsStop in subst P e s

-- a call that answers what its form gives answers the one outcome that it gives, or that memory is missing
answered : AreRead → (request : Option Request) (r : Reading) (stop outcome : Outcome) → outcome ≡ stop → Gives request r stop → Tells r (files_of request)
    → Quiet r (files_of request) → (answer : Outcome) → FormGives request r answer → (outcome ≡ NoMemory) ⊎ (outcome ≡ answer)
answered law request r stop outcome e (inl m) t q answer h = inl (e ∙ m)
answered law request r stop outcome e (inr g) t q answer h = inr (e ∙ one_answer law request r t q stop answer g h)

-- a count that stayed did not rise
still : (c : Change) → Unchanged c → CanRise c → Failed c → ⊥
still c u can f = omega (arith, u.1)

no_rise : (c : Change) → Unchanged c → c.before < c.now → ⊥
no_rise c u h = omega (arith, u.1)

-- the line of what stopped a call, or a front of it
spoke_line : (request : Option Request) (r : Reading) (say : Change) (stop outcome : Outcome) (wording : Wording) → Halts request r stop wording
    → Spoke stop wording say outcome → CutLine request r say
spoke_line request r say stop outcome wording h (Spoken e said) = record {
  stop = stop;
  stopped = stop_not_done stop h.stops;
  unbroken = stop_not_fault stop h.stops;
  gives = h.gives;
  wording = wording;
  named = h.named;
  gained = front_whole say.old say.new (say_line wording stop) said;
}
spoke_line request r say stop outcome wording h (Broken e f said) = record {
  stop = stop;
  stopped = stop_not_done stop h.stops;
  unbroken = stop_not_fault stop h.stops;
  gives = h.gives;
  wording = wording;
  named = h.named;
  gained = said;
}

finished : AreRead → (request : Option Request) (r : Reading) (out say : Change) (back : List View) (outcome : Outcome) (text : List ℕ) → outcome ≡ Done
    → Finishes request r text back → Gained out text → Unchanged say → Promise request r out say back outcome
finished law request r out say back outcome text e f gained u =
    let P : Outcome → Type 0 = λ o. Gives request r o in
    record {
      order = inr (subst P (sym e) f.gives);
      write_fault = λ w. absurd (cc);
      stopped = λ n w. absurd (n e);
      done = λ d. (record { text = text; prints = f.prints; hands = f.hands; gained = gained }, u);
      none_back = λ n. absurd (n e);
      partial = λ w. absurd (cc);
      table = λ w a b. absurd (cc);
      out_rises = λ h. f.gives;
      say_rises = λ h. absurd (no_rise say u h);
      exact = λ t q fo fs a h. answered law request r Done outcome e f.gives t q a h;
    }

said : AreRead → (request : Option Request) (r : Reading) (out say : Change) (back : List View) (stop outcome : Outcome) (wording : Wording)
    → Halts request r stop wording → Unchanged out → back ≡ [] → outcome ≡ stop → Gained say (say_line wording stop) → CutLine request r say
    → Promise request r out say back outcome
said law request r out say back stop outcome wording s u none e gained line =
    let P : Outcome → Type 0 = λ o. Gives request r o in
    let Q : Outcome → Type 0 = λ o. Said request r say o in
    record {
      order = inr (subst P (sym e) s.gives);
      write_fault = λ w. absurd (stop_not_fault stop s.stops (sym e ∙ w));
      stopped = λ n w. (u, subst Q (sym e) (record { wording = wording; named = s.named; gained = gained }));
      done = λ d. absurd (stop_not_done stop s.stops (sym e ∙ d));
      none_back = λ n. none;
      partial = λ w. absurd (stop_not_fault stop s.stops (sym e ∙ w));
      table = λ w a b. absurd (stop_not_fault stop s.stops (sym e ∙ w));
      out_rises = λ h. absurd (no_rise out u h);
      say_rises = λ h. inr line;
      exact = λ t q fo fs a h. answered law request r stop outcome e s.gives t q a h;
    }

unsaid : (request : Option Request) (r : Reading) (out say : Change) (back : List View) (outcome : Outcome)
    → Unchanged out → back ≡ [] → outcome ≡ WriteFault → Failed say → CutLine request r say → Promise request r out say back outcome
unsaid request r out say back outcome u none e f line = record {
  order = inl e;
  write_fault = λ w. inr f;
  stopped = λ n w. absurd (w e);
  done = λ d. absurd (cc);
  none_back = λ n. none;
  partial = λ w. inl u;
  table = λ w a b. record {
    out_still = λ h. u;
    say_still = λ h. absurd (h f);
    both = λ h k. absurd (still out u a h);
    say_alone = λ h k. line;
  };
  out_rises = λ h. absurd (no_rise out u h);
  say_rises = λ h. inr line;
  exact = λ t q fo fs a h. absurd (fs f);
}

cut_short : (request : Option Request) (r : Reading) (out say : Change) (back : List View) (outcome : Outcome) (text : List ℕ) (kept : List View)
    → Finishes request r text kept → Failed out → GainedFront out text → back ≡ [] → outcome ≡ WriteFault
    → ((Failed say → ⊥) → Gained say (say_line (by_line []) WriteFault)) → GainedFront say (say_line (by_line []) WriteFault)
    → Promise request r out say back outcome
cut_short request r out say back outcome text kept g f gained none e whole front = record {
  order = inl e;
  write_fault = λ w. inl f;
  stopped = λ n w. absurd (w e);
  done = λ d. absurd (cc);
  none_back = λ n. none;
  partial = λ w. inr (record { text = text; prints = g.prints; gained = gained });
  table = λ w a b. record {
    out_still = λ h. absurd (h f);
    say_still = λ h. (f, whole h);
    both = λ h k. front;
    say_alone = λ h k. absurd (h f);
  };
  out_rises = λ h. g.gives;
  say_rises = λ h. inl f;
  exact = λ t q fo fs a h. absurd (fo f);
}

pub promised : AreRead → (request : Option Request) (r : Reading) (out say : Change) (back : List View) (outcome : Outcome)
    → Ends request r out say back outcome → Promise request r out say back outcome
promised law request r out say back outcome (Finished text e f gained u) = finished law request r out say back outcome text e f gained u
promised law request r out say back outcome (Stopped stop wording s u none (Spoken e gained)) =
    said law request r out say back stop outcome wording s u none e gained (spoke_line request r say stop outcome wording s (Spoken e gained))
promised law request r out say back outcome (Stopped stop wording s u none (Broken e f gained)) =
    unsaid request r out say back outcome u none e f (spoke_line request r say stop outcome wording s (Broken e f gained))
promised law request r out say back outcome (Cut text kept g f gained none (Spoken e line)) =
    cut_short request r out say back outcome text kept g f gained none e (λ h. line) (front_whole say.old say.new (say_line (by_line []) WriteFault) line)
promised law request r out say back outcome (Cut text kept g f gained none (Broken e k line)) =
    cut_short request r out say back outcome text kept g f gained none e (λ h. absurd (h k)) line

-- the same, where the words were read as this request
pub ended_usage : AreRead → (request : Option Request) (r : Reading) (out say : Change) (back : List View) (outcome : Outcome) → None ≡ request
    → Unchanged out → back ≡ [] → Spoke Usage (by_line []) say outcome → Promise request r out say back outcome
ended_usage law request r out say back outcome e u none s =
    let P : Option Request → Type 0 = λ q. Promise q r out say back outcome in
    let halts : Halts None r Usage (by_line []) = record { stops = tt; gives = inr refl; named = tt } in
    subst P e (promised law None r out say back outcome (Stopped Usage (by_line []) halts u none s))

pub ended_stop : AreRead → (request : Option Request) (t : Request) (r : Reading) (out say : Change) (back : List View) (stop outcome : Outcome)
    (wording : Wording) → Some t ≡ request → Halts (Some t) r stop wording → Unchanged out → back ≡ [] → Spoke stop wording say outcome
    → Promise request r out say back outcome
ended_stop law request t r out say back stop outcome wording e h u none s =
    let P : Option Request → Type 0 = λ q. Promise q r out say back outcome in
    subst P e (promised law (Some t) r out say back outcome (Stopped stop wording h u none s))

pub ended_done : AreRead → (request : Option Request) (t : Request) (r : Reading) (out say : Change) (back : List View) (text : List ℕ) → Some t ≡ request
    → Finishes (Some t) r text back → Gained out text → Unchanged say → Promise request r out say back Done
ended_done law request t r out say back text e f gained u =
    let P : Option Request → Type 0 = λ q. Promise q r out say back Done in
    subst P e (promised law (Some t) r out say back Done (Finished text refl f gained u))

pub ended_cut : AreRead → (request : Option Request) (t : Request) (r : Reading) (out say : Change) (back kept : List View) (text : List ℕ) (outcome : Outcome)
    → Some t ≡ request → Finishes (Some t) r text kept → Failed out → GainedFront out text → back ≡ [] → Spoke WriteFault (by_line []) say outcome
    → Promise request r out say back outcome
ended_cut law request t r out say back kept text outcome e g f gained none s =
    let P : Option Request → Type 0 = λ q. Promise q r out say back outcome in
    subst P e (promised law (Some t) r out say back outcome (Cut text kept g f gained none s))

-- a file that is admitted and read is done, or finds no memory
pub complete : (request : Option Request) (r : Reading) (out say : Change) (back : List View) (outcome : Outcome) → Promise request r out say back outcome
    → Admits request r → Quiet r (files_of request) → (Failed out → ⊥) → (Failed say → ⊥) → (outcome ≡ NoMemory) ⊎ (outcome ≡ Done)
complete request r out say back outcome p a q fo fs = p.exact (admits_told request r a) q fo fs Done (admits_gives request r a)

-- a call that did not fail gave an outcome of its form
gave : (basis : Basis) (r : Reading) (file content before : List ℕ) (out say : Change) (back : List View) (outcome : Outcome)
    → Faultless basis r file content before out say back outcome → Gives (Some (Compile basis file)) r outcome
gave basis r file content before out say back outcome f = elim f.promise.order [
  | inl w ↦ elim (f.promise.write_fault w) [ inl o ↦ absurd (f.written o) | inr s ↦ absurd (f.said s) ]
  | inr g ↦ g
]

unbroken : (basis : Basis) (r : Reading) (file content before : List ℕ) (out say : Change) (back : List View) (outcome : Outcome)
    → Faultless basis r file content before out say back outcome → outcome ≢ WriteFault
unbroken basis r file content before out say back outcome f w =
    elim (f.promise.write_fault w) [ inl o ↦ f.written o | inr s ↦ f.said s ]

appended : (basis : Basis) (r : Reading) (file content before : List ℕ) (out say : Change) (back : List View) (outcome : Outcome)
    → Faultless basis r file content before out say back outcome → outcome ≡ Done → Appended basis content before out
appended basis r file content before out say back outcome f d =
    let p = (f.promise.done d).0 in
    let q = p.prints in
    let P : List ℕ → Type 0 = λ b. IsAdmittedText b q.command.names q.command.procs in
    let same : q.held.bytes ≡ content = loaded_whole MAX_FILE_BYTES r file q.held.bytes q.held.loaded q.held.admitted.source.read.few content f.content_told in
    record {
      text = p.text;
      compiled = record {
        command = q.command;
        admitted = subst P same q.held.admitted;
        rules = weave_rules q.command.procs q.command.valid.shaped q.held.admitted.admitted;
        netlist = q.netlist;
      };
      gained = p.gained before f.out_told;
    }

done_admitted : (basis : Basis) (r : Reading) (file content before : List ℕ) (out say : Change) (back : List View) (outcome : Outcome)
    → Faultless basis r file content before out say back outcome → outcome ≡ Done → IsSuited (Compiles basis) content
done_admitted basis r file content before out say back outcome f d =
    let P : Outcome → Type 0 = λ o. Gives (Some (Compile basis file)) r o in
    let Q : List ℕ → Type 0 = IsSuited (Compiles basis) in
    let g = subst P d (gave basis r file content before out say back outcome f) in
    let a = gives_admitted (Some (Compile basis file)) r g ((content, f.content_told), tt) in
    subst Q (some_same a.content content (r.content file) a.told f.content_told) a.suited

admitted_done : (basis : Basis) (r : Reading) (file content before : List ℕ) (out say : Change) (back : List View) (outcome : Outcome)
    → Faultless basis r file content before out say back outcome → IsSuited (Compiles basis) content → outcome ≡ Done
admitted_done basis r file content before out say back outcome f a =
    let fits : CompileAdmits basis r file = record { content = content; told = f.content_told; suited = a } in
    elim (complete (Some (Compile basis file)) r out say back outcome f.promise fits (f.read, tt) f.written f.said) [
      | inl m ↦ absurd (f.memory m)
      | inr d ↦ d
    ]

pub headline : (basis : Basis) (r : Reading) (file content before : List ℕ) (out say : Change) (back : List View) (outcome : Outcome)
    → Faultless basis r file content before out say back outcome → Headline basis content before out outcome
headline basis r file content before out say back outcome f = record {
  exactly = (done_admitted basis r file content before out say back outcome f, admitted_done basis r file content before out say back outcome f);
  done = appended basis r file content before out say back outcome f;
  stopped = λ n. (f.promise.stopped n (unbroken basis r file content before out say back outcome f)).0.0 ∙ f.out_told;
}
