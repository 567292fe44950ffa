use Rattle.register_sound.proofs.sound_entry.Goals as goal

pub returns : goal.returns
returns c = rw (c.within.ensures, c.within-2.ensures, c.sound_period-days.ensures)
