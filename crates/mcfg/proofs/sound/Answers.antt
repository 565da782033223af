-- At each refusal the part that failed decides; rising entries are apart, and of others it is asked.
use Rattle.std.proofs.Common.{◌≡◌, true, sym, ap, ◌∙◌}
use Rattle.rules.specs.Lists.{every, pairwise}
use Rattle.rules.specs.Mcfg.{entries, entry_sound, share_no_bus, share_no_byte}
use Rattle.mcfg.specs.Rest.{seen_apart, seen_below, rising}
use Rattle.mcfg.proofs.Heads.{pairwise_both}
use Rattle.mcfg.proofs.Rising.{rising_apart, seen_pairwise, seen_rising}
use Rattle.mcfg.proofs.Header.{sound_parts}
use Rattle.mcfg.proofs.sound.Goals as goal

pub returns-then-not-header_sound : goal.returns-then-not-header_sound
returns-then-not-header_sound c = rw (sound_parts c.args.m.now, sym c.header_sound.ensures ∙ c.if-not-header_sound.true)

pub returns-then-not-entries_sound : goal.returns-then-not-entries_sound
returns-then-not-entries_sound c =
    rw (
      sound_parts c.args.m.now,
      sym c.header_sound.ensures ∙ c.if-not-header_sound.false,
      sym (ap (every entry_sound) c.records-records.ensures) ∙ sym c.entries_sound.ensures ∙ c.if-not-entries_sound.true,
    )

pub returns-then-entries_rising : goal.returns-then-entries_rising
returns-then-entries_rising c =
    let es = entries c.args.m.now in
    let sound : every entry_sound es ≡ true = sym (ap (every entry_sound) c.records-records.ensures) ∙ sym c.entries_sound.ensures ∙ c.if-not-entries_sound.false in
    let seen : rising seen_below es ≡ true = sym (ap (rising seen_below) c.records-records.ensures) ∙ sym c.entries_rising.ensures ∙ c.if-entries_rising.true in
    rw (
      sound_parts c.args.m.now,
      sym c.header_sound.ensures ∙ c.if-not-header_sound.false,
      sound,
    )
    (sym (sym (pairwise_both share_no_bus share_no_byte es) ∙ rising_apart es sound (sym (seen_rising es sound) ∙ seen)))

pub returns : goal.returns
returns c =
    let es = entries c.args.m.now in
    let sound : every entry_sound es ≡ true = sym (ap (every entry_sound) c.records-records.ensures) ∙ sym c.entries_sound.ensures ∙ c.if-not-entries_sound.false in
    rw (
      sound_parts c.args.m.now,
      sym c.header_sound.ensures ∙ c.if-not-header_sound.false,
      sound,
    )
    (c.entries_apart.ensures ∙ ap (pairwise seen_apart) c.records-records.ensures ∙ seen_pairwise es sound ∙ pairwise_both share_no_bus share_no_byte es)
