pub mod Circuit  -- what a circuit does
pub mod CircuitLaws  -- every circuit keeps the laws of a model
pub mod CircuitFile  -- what a circuit's model file means
pub mod Wave  -- the wave of a circuit as a text
