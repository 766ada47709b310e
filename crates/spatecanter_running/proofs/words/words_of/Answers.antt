-- `spatecanter_running::words::words_of` meets its contract: word by word, and each can be read again.
-- Assumes nothing.
use mathlib.Core.List.{[], ◌∷◌}
use Rattle.spatecanter_running.specs.Words.{words_of, tape_in}
use Rattle.spatecanter_running.specs.WordsLaws.{flag_back, machine_back, phase_back}
use Rattle.spatecanter_running.proofs.words.words_of.Goals as goal

pub returns : goal.returns
unfolding words_of tape_in
returns c =
    let r = c.args.r in
    let s = r.state in
    let p = c.phase_word.ensures in
    let n = c.number_word.ensures in
    let q = c.place_word.ensures in
    let m = c.machine_word.ensures in
    let f0 = c.flag_word.ensures in
    let f1 = c.flag_word-2.ensures in
    let f2 = c.flag_word-3.ensures in
    let f3 = c.flag_word-4.ensures in
    let f4 = c.flag_word-5.ensures in
    let f5 = c.flag_word-6.ensures in
    let f6 = c.flag_word-7.ensures in
    let f7 = c.flag_word-8.ensures in
    let f8 = c.flag_word-9.ensures in
    let f9 = c.flag_word-10.ensures in
    let z = c.byte_word.ensures in
    let x = c.units_word.ensures in
    let h = c.quanta_word.ensures in
    let far = c.units_word-2.ensures in
    let high = c.quanta_word-2.ensures in
    record {
      words_are = (λ i. p i ∷ n.0 i ∷ q i ∷ m i ∷ f0 i ∷ f1 i ∷ f2 i ∷ f3 i ∷ f4 i ∷ f5 i ∷ f6 i ∷ f7 i ∷ f8 i ∷ f9 i ∷ z.0 i ∷ x.0 i ∷ h.0 i ∷ r.total ∷ r.count ∷ far.0 i ∷ high.0 i ∷ r.extents.fonts.low ∷ r.extents.fonts.high ∷ []);
      tape_is = (λ i. record {
        phase = phase_back r.phase _ p n.1 q i;
        state = record {
          machine = machine_back s.machine m i;
          initialized = flag_back s.initialized f0 i;
          parked = flag_back s.parked f1 i;
          stopped = flag_back s.stopped f2 i;
          cut = flag_back s.cut f3 i;
          modes = record {
            escape_back = flag_back s.modes.escape_back f4 i;
            lead_back = flag_back s.modes.lead_back f5 i;
            upper_half = flag_back s.modes.upper_half f6 i;
            upper_rail = flag_back s.modes.upper_rail f7 i;
            upper_mag = flag_back s.modes.upper_mag f8 i;
            tilt_down = flag_back s.modes.tilt_down f9 i;
          };
          size = z.1 i;
          carriage = record { 0 = x.1 i };
          height = record { 0 = h.1 i };
        };
        total = r.total;
        count = r.count;
        extents = record { x = record { 0 = far.1 i }; height = record { 0 = high.1 i }; fonts = r.extents.fonts };
      });
    }
